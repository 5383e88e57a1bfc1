-- **Every script comes to an end**, played at once or by calls: each command that is carried out moves the place on, past its closing bracket, and at each place what is next
-- can be told.
use Prim.Native.Nat.{ℕ, zero, suc, ◌+◌, ◌≤◌}
use native.Mathlib.Omega.{arith}
use native.Mathlib.Decide.{ℕ_discrete, dec_le}
use mathlib.Core.Path.{◌≡◌, refl, sym, subst}
use mathlib.Core.Bool.{Bool, true, false}
use mathlib.Core.List.{List, [], ◌++◌}
use lib.ListN.{length, take, replicate, length-replicate}
use Rattle.meaning.specs.Bounds.{ROOM, TEXT, DONE, SHORT, SIZE}
use Rattle.meaning.specs.Promise.{First}
use Rattle.meaning.proofs.Possible.{Outcome}
use Rattle.text.specs.Lexicon.{END, token_at}
use Rattle.text.proofs.Tokens.{token_placed}
use Rattle.span.specs.Span.{span}
use Rattle.write.specs.Written.{over}
use Rattle.script_meaning.specs.Record.{Lent, StartRoom}
use Rattle.script_meaning.specs.Effect.{Does}
use Rattle.script_meaning.specs.Commands.{text_needs, command_meaning}
use Rattle.script_meaning.specs.Traces.{with_out}
use Rattle.script_meaning.specs.Whole.{error_line, rest, read_at, after_command, exits, Plays, blank, RunsScript}
use Rattle.script_meaning.specs.ByCalls.{CallsAt, Goes, RunsByCalls, GoesBy}
use Rattle.script_meaning.proofs.Granted.{text_met, granted}
use Rattle.script_meaning.proofs.Keeping.{Fine, does_fine}
use Rattle.script_meaning.proofs.InForce.{fresh_fine}
use Rattle.script_meaning.proofs.Calling.{start_fresh}
use Rattle.script_meaning.proofs.Playing.{blank_fresh}
use Rattle.script_meaning.proofs.Decided.{first_told, text_told}
use Rattle.script_meaning.proofs.ByCalls.{call_fine}
use Rattle.script_meaning.proofs.Possible.{does_some, command_possible, start_met}

module _ (s : List ℕ) where
  -- Where a command begins there is text left, and past it there is less.
  moves_on : (i left : ℕ) → ((token_at s i).kind ≡ END → ⊥) → 1 ≤ span (rest s i) → length s ≤ i + suc left → length s ≤ after_command s i + left
  moves_on i left some spans enough = omega (arith, spans, enough, (token_placed s i (token_at s i) refl).starts)

  text_left : (i : ℕ) → ((token_at s i).kind ≡ END → ⊥) → length s ≤ i + 0 → ⊥
  text_left i some none = let p = token_placed s i (token_at s i) refl in omega (arith, none, p.starts, (p.some some).0, (p.some some).1)

  -- ---- played at once

  -- From place i on, with l lent and k bytes written, the script ends.
  record Ended (i : ℕ) (l : Lent) (k : ℕ) : Type 0 where
    number : ℕ
    written : ℕ
    bytes : List ℕ
    plays : Plays s i l k number written bytes

  -- So at a place with a token, where it ends from past the command on.
  play_at : (i : ℕ) (l : Lent) (k : ℕ) → Fine l → ((token_at s i).kind ≡ END → ⊥) → (1 ≤ span (rest s i) → (m : Lent) (v : ℕ) → Fine m → Ended (after_command s i) m v) → Ended i l k
  play_at i l k f some on = by_room (dec_le (k + ROOM) (length l.out)) (first_told (text_needs (rest s i) l) (text_told (rest s i) l))
    where
      by-exit : k + ROOM ≤ length l.out → First (text_needs (rest s i) l) DONE → (b : Bool) → exits (read_at s i) ≡ b → Ended i l k
      by-exit room met b is = tell b is (does_some (read_at s i) k l f (text_met (rest s i) l met).1)
        where
          tell : (b : Bool) → exits (read_at s i) ≡ b → (w : ℕ) × ((m : Lent) × Does (read_at s i) k l w m) → Ended i l k
          tell true is (w, (m, does)) = record { number = DONE; written = k + w; bytes = m.out; plays = Plays.exited i l m k w some room met does is }
          tell false is (w, (m, does)) =
              let x = on (text_met (rest s i) l met).0 m (k + w) (does_fine (rest s i) k w l m f met does) in
              record {
                number = x.number;
                written = x.written;
                bytes = x.bytes;
                plays = Plays.goes_on i l m k w x.number x.written x.bytes some room met does is x.plays;
              }

      by_number : k + ROOM ≤ length l.out → (g : ℕ) → First (text_needs (rest s i) l) g → Dec (g ≡ DONE) → Ended i l k
      by_number room g first (no refuses) =
          record { number = g; written = k + length (error_line g); bytes = over l.out k (error_line g); plays = Plays.refused i l k g some room first refuses }
      by_number room g first (yes done) = by-exit room (subst (First (text_needs (rest s i) l)) done first) (exits (read_at s i)) refl

      by_room : Dec (k + ROOM ≤ length l.out) → (g : ℕ) × First (text_needs (rest s i) l) g → Ended i l k
      by_room (no full) first = record { number = SHORT; written = k; bytes = l.out; plays = Plays.no_room i l k some (omega (arith, full)) }
      by_room (yes room) (g, first) = by_number room g first (ℕ_discrete g DONE)

  plays_end : (left i : ℕ) (l : Lent) (k : ℕ) → Fine l → length s ≤ i + left → Ended i l k
  plays_end zero i l k f enough = tell (ℕ_discrete (token_at s i).kind END)
    where
      tell : Dec ((token_at s i).kind ≡ END) → Ended i l k
      tell (yes over-here) = record { number = DONE; written = k; bytes = l.out; plays = Plays.at_end i l k over-here }
      tell (no some) = absurd (text_left i some enough)
  plays_end (suc left) i l k f enough = tell (plays_end left) (ℕ_discrete (token_at s i).kind END)
    where
      tell : ((j : ℕ) (m : Lent) (v : ℕ) → Fine m → length s ≤ j + left → Ended j m v) → Dec ((token_at s i).kind ≡ END) → Ended i l k
      tell on (yes over-here) = record { number = DONE; written = k; bytes = l.out; plays = Plays.at_end i l k over-here }
      tell on (no some) = play_at i l k f some (λ spans m v g. on (after_command s i) m v g (moves_on i left some spans enough))

  -- ---- by calls

  -- From place i on, with l lent, a caller comes to an end.
  record Gone (i : ℕ) (l : Lent) : Type 0 where
    number : ℕ
    bytes : List ℕ
    goes : Goes s i l number bytes

  -- So at a place with a token, where he does from past the command on.
  call_at : (i : ℕ) (l : Lent) → Fine l → ((token_at s i).kind ≡ END → ⊥) → (1 ≤ span (rest s i) → (m : Lent) → Fine m → Gone (after_command s i) m) → Gone i l
  call_at i l f some on = by_number (ℕ_discrete x.answer.number DONE)
    where
      out : List ℕ
      out = replicate ROOM 0

      x : Outcome (command_meaning (rest s i) (with_out out l)) (with_out out l)
      x = command_possible (rest s i) (with_out out l)

      calls : CallsAt s i l x.answer x.after
      calls = record { some = some; out = out; room = omega (arith, length-replicate {A = ℕ} ROOM 0); keeps = x.keeps }

      by-exit : x.answer.number ≡ DONE → (b : Bool) → exits (read_at s i) ≡ b → Gone i l
      by-exit done true is = record { number = DONE; bytes = take x.answer.two x.after.out; goes = GoesBy.exited i l x.answer x.after calls done is }
      by-exit done false is =
          let r = granted (rest s i) (with_out out l) (subst (First (command_meaning (rest s i) (with_out out l)).asks) done x.keeps.first_unmet) in
          let d = x.keeps.when_done done in
          let y = on (text_met (rest s i) (with_out out l) r.met).0 x.after (call_fine s i l x.answer x.after calls done f) in
          record {
            number = y.number;
            bytes = take x.answer.two x.after.out ++ y.bytes;
            goes =
                GoesBy.goes_on i l x.answer x.after calls done is y.number y.bytes
                (subst (λ (n : ℕ). Goes s ((token_at s i).from + n) x.after y.number y.bytes) (sym d.bytes_read) y.goes);
          }

      by_number : Dec (x.answer.number ≡ DONE) → Gone i l
      by_number (no refuses) = record { number = x.answer.number; bytes = error_line x.answer.number; goes = GoesBy.refused i l x.answer x.after calls refuses }
      by_number (yes done) = by-exit done (exits (read_at s i)) refl

  goes_end : (left i : ℕ) (l : Lent) → Fine l → length s ≤ i + left → Gone i l
  goes_end zero i l f enough = tell (ℕ_discrete (token_at s i).kind END)
    where
      tell : Dec ((token_at s i).kind ≡ END) → Gone i l
      tell (yes over-here) = record { number = DONE; bytes = []; goes = GoesBy.at_end i l over-here }
      tell (no some) = absurd (text_left i some enough)
  goes_end (suc left) i l f enough = tell (goes_end left) (ℕ_discrete (token_at s i).kind END)
    where
      tell : ((j : ℕ) (m : Lent) → Fine m → length s ≤ j + left → Gone j m) → Dec ((token_at s i).kind ≡ END) → Gone i l
      tell on (yes over-here) = record { number = DONE; bytes = []; goes = GoesBy.at_end i l over-here }
      tell on (no some) = call_at i l f some (λ spans m g. on (after_command s i) m g (moves_on i left some spans enough))

-- **Every script has an outcome**, whatever bytes are lent for its answers.
pub script_possible : (s out : List ℕ) → (g : ℕ) × ((w : ℕ) × ((end : List ℕ) × RunsScript s out g w end))
script_possible s out = by_size (dec_le (length s) TEXT) (dec_le ROOM (length out))
  where
    by_size : Dec (length s ≤ TEXT) → Dec (ROOM ≤ length out) → (g : ℕ) × ((w : ℕ) × ((end : List ℕ) × RunsScript s out g w end))
    by_size (yes fits) room =
        let x = plays_end s (length s) 0 (blank out) 0 (fresh_fine (blank out) (blank_fresh out)) (omega arith) in (
          x.number,
          (
            x.written,
            (
              x.bytes,
              record {
                too_long = λ long. absurd (omega (arith, long, fits));
                too_long_short = λ long. absurd (omega (arith, long, fits));
                played = λ h. x.plays;
              },
            ),
          ),
        )
    by_size (no long) (yes room) = (
      SIZE,
      (
        length (error_line SIZE),
        (
          over out 0 (error_line SIZE),
          record {
            too_long = λ h enough. (refl, (refl, refl));
            too_long_short = λ h short. absurd (omega (arith, short, room));
            played = λ fits. absurd (long fits);
          },
        ),
      ),
    )
    by_size (no long) (no short) = (
      SHORT,
      (
        0,
        (
          out,
          record {
            too_long = λ h enough. absurd (short enough);
            too_long_short = λ h none. (refl, (refl, refl));
            played = λ fits. absurd (long fits);
          },
        ),
      ),
    )

-- **Every caller** who lends tables with room comes to an end.
pub caller_possible : (s : List ℕ) (l : Lent) → StartRoom l → (g : ℕ) × ((b : List ℕ) × RunsByCalls s l g b)
caller_possible s l room =
    let y = start_met l room in
    let fresh = start_fresh l y.answer y.after y.keeps y.number_is in
    let x = goes_end s (length s) 0 y.after (fresh_fine y.after fresh) (omega arith) in
    (x.number, (x.bytes, record { answer = y.answer; after = y.after; started = y.keeps; accepted = y.number_is; goes = x.goes }))
