-- **A whole script by calls** prints what the whole script prints at once, and ends as it ends: the tables that the caller lends and the script's own are the same below the
-- counts after every command, so the same commands are carried out and refused, and print the same bytes. SHORT and DAMAGED are no answer of such a call: every command that is
-- carried out leaves what is sound, with room.
use Prim.Native.Nat.{ℕ, ◌+◌, ◌≤◌}
use native.Mathlib.Omega.{arith}
use mathlib.Core.Path.{◌≡◌, refl, sym, ◌∙◌, ap, subst}
use mathlib.Core.List.{List, [], ◌++◌}
use mathlib.Core.Logic.{inl, inr}
use lib.ListN.{length, take, replicate, length-append, length-replicate}
use Rattle.meaning.specs.Bounds.{ROOM, TEXT, DONE, SHORT, DAMAGED, CONFLICT}
use Rattle.meaning.specs.Promise.{Given, First, bare}
use Rattle.meaning.proofs.Needs.{obeys_refused}
use Rattle.text.specs.Lexicon.{END, token_at}
use Rattle.span.specs.Span.{span}
use Rattle.reading.specs.Reading.{reading}
use Rattle.write.specs.Written.{over}
use Rattle.write.proofs.Laws.{over_none, over_append, length_over, part_written}
use Rattle.script_meaning.specs.Record.{Lent, StartRoom, ScriptRoom}
use Rattle.script_meaning.specs.Effect.{Does, prints}
use Rattle.script_meaning.specs.Commands.{text_needs, command_meaning, start_meaning}
use Rattle.script_meaning.specs.Traces.{with_out}
use Rattle.script_meaning.specs.Whole.{error_line, rest, read_at, after_command, Plays, Fresh, blank, RunsScript}
use Rattle.script_meaning.specs.ByCalls.{CallsAt, Goes, RunsByCalls, GoesBy}
use Rattle.script_meaning.proofs.Granted.{start_granted, text_met}
use Rattle.script_meaning.proofs.Refusing.{never_short, never_damaged, never_conflict}
use Rattle.script_meaning.proofs.Keeping.{Fine, other_fine, does_fine}
use Rattle.script_meaning.proofs.Printing.{does_printed, printed_room, written_part}
use Rattle.script_meaning.proofs.InForce.{fresh_fine}
use Rattle.script_meaning.proofs.Calling.{start_fresh}
use Rattle.script_meaning.proofs.Playing.{blank_fresh}
use Rattle.script_meaning.proofs.Ending.{runs_same}
use Rattle.script_meaning.proofs.Possible.{does_some, command_met, start_met}
use Rattle.script_meaning.proofs.Alike.{Alike, alike_back, bytes_alike, needs_alike, does_alike, printed_alike}

-- What is fresh is the same below the counts.
fresh_alike : (l m : Lent) → Fresh l → Fresh m → Alike l m
fresh_alike l m f g = record {
  tables_alike = record {
    same_counts = f.counts_are ∙ sym g.counts_are;
    same_rules = λ i h. absurd (omega (arith, h.1, f.all_free i h.0));
    same_levels = λ i below. f.all_free i below ∙ sym (g.all_free i below);
  };
  same_notes = f.notes_are ∙ sym g.notes_are;
  same_names = λ k h. absurd (omega (arith, h, ap (λ n. n.names) f.notes_are));
}

-- A command call on what is sound, with room: it is neither SHORT nor DAMAGED, so its number is that of the text's first need not met.
module _ (text : List ℕ) (l : Lent) (f : Fine l) (room : ROOM ≤ length l.out) where
  script_room : ScriptRoom 0 l
  script_room = record { start_room = f.room; out_room = room }

  judged : (g : ℕ) → First (command_meaning text l).asks g → First (text_needs text l) g
  judged g (inl (short, no_room)) = absurd (no_room script_room)
  judged g (inr (room, inl (damaged, unsound))) = absurd (unsound f.sound)
  judged g (inr (room, inr (sound, met))) = met

  asked_for : (g : ℕ) → First (text_needs text l) g → First (command_meaning text l).asks g
  asked_for g met = inr (script_room, inr (f.sound, met))

-- The text t, whose needs are met, on l as a call and on p as a script plays it, printing from place k on: both leave the same, sound and with room, and print the same bytes.
record Beside (k v w : ℕ) (p m q : Lent) : Type 0 where
  left_alike : Alike m q
  call_fine : Fine m
  play_fine : Fine q
  as_many : w ≡ length (take v m.out)
  there : q.out ≡ over p.out k (take v m.out)

beside :
    (t : List ℕ) (l p : Lent) → Alike l p → Fine l → Fine p → ROOM ≤ length l.out → First (text_needs t l) DONE → First (text_needs t p) DONE →
    (k v w : ℕ) (m q : Lent) → Does (reading t) 0 l v m → Does (reading t) k p w q → Beside k v w p m q
beside t l p a f g room met met' k v w m q does does' =
    let b : take v m.out ≡ prints (reading t) p =
    written_part 0 v (prints (reading t) l) l.out m.out (does_printed (reading t) 0 v l m does) (omega (arith, room, printed_room t l f met))
    ∙ printed_alike l p a f g (reading t) (text_met t l met).1 in
    let wrote = does_printed (reading t) k w p q does' in
    record {
      left_alike = does_alike l p a t 0 k v w m q f g met does does';
      call_fine = does_fine t 0 v l m f met does;
      play_fine = does_fine t k w p q g met' does';
      as_many = wrote.as_many ∙ ap length (sym b);
      there = wrote.left ∙ ap (over p.out k) (sym b);
    }

-- ---- from the calls to the script

module _ (s : List ℕ) where
  -- A call's number is that of the text's first need not met.
  call_judged : (i : ℕ) (l : Lent) (a : Given) (m : Lent) (c : CallsAt s i l a m) → Fine l → First (text_needs (rest s i) (with_out c.out l)) a.number
  call_judged i l a m c f = judged (rest s i) (with_out c.out l) (other_fine c.out l f) c.room a.number c.keeps.first_unmet

  call_met : (i : ℕ) (l : Lent) (a : Given) (m : Lent) (c : CallsAt s i l a m) → Fine l → a.number ≡ DONE → First (text_needs (rest s i) (with_out c.out l)) DONE
  call_met i l a m c f done = subst (First (text_needs (rest s i) (with_out c.out l))) done (call_judged i l a m c f)

  -- A command call that is carried out leaves what is sound.
  pub call_fine : (i : ℕ) (l : Lent) (a : Given) (m : Lent) → CallsAt s i l a m → a.number ≡ DONE → Fine l → Fine m
  call_fine i l a m c done f =
      does_fine (rest s i) 0 a.two (with_out c.out l) m (other_fine c.out l f) (call_met i l a m c f done) (c.keeps.when_done done).done

  -- So no call of a caller is SHORT or DAMAGED.
  goes_apart : (i : ℕ) (l : Lent) (g : ℕ) (b : List ℕ) → Goes s i l g b → Fine l → (g ≡ SHORT → ⊥) × (g ≡ DAMAGED → ⊥)
  goes_apart i l g b (GoesBy.at_end _ _ over-here) f = ((λ e. omega (arith, e)), (λ e. omega (arith, e)))
  goes_apart i l g b (GoesBy.refused _ _ a m c refuses) f =
      let lent : Lent = with_out c.out l in
      let unmet = call_judged i l a m c f in
      (never_short (rest s i) lent a.number unmet, never_damaged (rest s i) lent a.number unmet)
  goes_apart i l g b (GoesBy.exited _ _ a m c done exit) f = ((λ e. omega (arith, e)), (λ e. omega (arith, e)))
  goes_apart i l g b (GoesBy.goes_on _ _ a m c done stays _ d on) f = goes_apart _ m g d on (call_fine i l a m c done f)

  -- A command call that is carried out, beside a play of the script that has come to the same place.
  record Follows (i : ℕ) (l : Lent) (a : Given) (m p : Lent) (k : ℕ) : Type 0 where
    read : a.one ≡ span (rest s i)
    met : First (text_needs (rest s i) p) DONE
    w : ℕ
    q : Lent
    does : Does (read_at s i) k p w q
    both : Beside k a.two w p m q

  follows : (i : ℕ) (l : Lent) (a : Given) (m : Lent) → CallsAt s i l a m → a.number ≡ DONE → (p : Lent) (k : ℕ) → Alike l p → Fine l → Fine p → Follows i l a m p k
  follows i l a m c done p k alike f g =
      let lent : Lent = with_out c.out l in
      let met = call_met i l a m c f done in
      let same : Alike lent p = bytes_alike l p alike c.out p.out in
      let met' = needs_alike (rest s i) DONE lent p same met in
      let d = does_some (read_at s i) k p g (text_met (rest s i) p met').1 in
      let x = c.keeps.when_done done in
      record {
        read = x.bytes_read;
        met = met';
        w = d.0;
        q = d.1.0;
        does = d.1.1;
        both = beside (rest s i) lent p same (other_fine c.out l f) g c.room met met' k a.two d.0 m d.1.0 x.done d.1.1;
      }

  -- What a caller prints is what the script prints, from any place on, into any bytes that have room for it and for one command more.
  pub goes_plays :
      (i : ℕ) (l : Lent) (g : ℕ) (b : List ℕ) → Goes s i l g b → (p : Lent) (k : ℕ) → Alike l p → Fine l → Fine p → k + length b + ROOM ≤ length p.out →
      Plays s i p k g (k + length b) (over p.out k b)
  goes_plays i l g b (GoesBy.at_end _ _ over-here) p k alike f h room =
      subst (λ (x : List ℕ). Plays s i p k DONE (k + 0) x) (sym (over_none p.out k))
      (subst (λ (x : ℕ). Plays s i p k DONE x p.out) (omega arith) (Plays.at_end i p k over-here))
  goes_plays i l g b (GoesBy.refused _ _ a m c refuses) p k alike f h room =
      Plays.refused i p k a.number c.some (omega (arith, room))
      (needs_alike (rest s i) a.number (with_out c.out l) p (bytes_alike l p alike c.out p.out) (call_judged i l a m c f)) refuses
  goes_plays i l g b (GoesBy.exited _ _ a m c done exit) p k alike f h room =
      let x = follows i l a m c done p k alike f h in
      subst (λ (n : ℕ). Plays s i p k DONE (k + n) (over p.out k (take a.two m.out))) x.both.as_many
      (subst (Plays s i p k DONE (k + x.w)) x.both.there (Plays.exited i p x.q k x.w c.some (omega (arith, room)) x.met x.does exit))
  goes_plays i l g b (GoesBy.goes_on _ _ a m c done stays _ b₁ on) p k alike f h room =
      let x = follows i l a m c done p k alike f h in
      let b₀ = take a.two m.out in
      let many : k + x.w + length b₁ ≡ k + length (b₀ ++ b₁) = omega (arith, length-append b₀ b₁, x.both.as_many) in
      let end : over x.q.out (k + x.w) b₁ ≡ over p.out k (b₀ ++ b₁) =
      ap (λ (o : List ℕ). over o (k + x.w) b₁) x.both.there ∙ ap (λ (n : ℕ). over (over p.out k b₀) (k + n) b₁) x.both.as_many ∙ over_append p.out k b₀ b₁ in
      let then = goes_plays _ m g b₁ on x.q (k + x.w) x.both.left_alike x.both.call_fine x.both.play_fine
      (omega (arith, room, many, ap length x.both.there, length_over p.out k b₀)) in
      let there : Plays s (after_command s i) x.q (k + x.w) g (k + x.w + length b₁) (over x.q.out (k + x.w) b₁) =
      subst (λ (n : ℕ). Plays s ((token_at s i).from + n) x.q (k + x.w) g (k + x.w + length b₁) (over x.q.out (k + x.w) b₁)) x.read then in
      subst (λ (n : ℕ). Plays s i p k g n (over p.out k (b₀ ++ b₁))) many
      (subst (Plays s i p k g (k + x.w + length b₁)) end
      (Plays.goes_on i p x.q k x.w g (k + x.w + length b₁) (over x.q.out (k + x.w) b₁) c.some (omega (arith, room, many)) x.met x.does stays there))

  -- ---- from the script to the calls

  -- A caller who has come to the same place with l lent ends with the same number, and prints what the script wrote.
  pub record Called (i : ℕ) (l : Lent) (k g w : ℕ) (before out : List ℕ) : Type 0 where
    pub bytes : List ℕ
    pub goes : Goes s i l g bytes
    pub long : w ≡ k + length bytes
    pub there : out ≡ over before k bytes

  -- The bytes that a caller may lend.
  lent_bytes : List ℕ
  lent_bytes = replicate ROOM 0

  enough : ROOM ≤ length lent_bytes
  unfolding lent_bytes
  enough = omega (arith, length-replicate {A = ℕ} ROOM 0)

  -- A refusal.
  refused_called :
      (i : ℕ) (l : Lent) (k g : ℕ) (before : List ℕ) → Fine l → ((token_at s i).kind ≡ END → ⊥) → (g ≡ DONE → ⊥) → (g ≡ CONFLICT → ⊥) →
      First (command_meaning (rest s i) (with_out lent_bytes l)).asks g → Called i l k g (k + length (error_line g)) before (over before k (error_line g))
  refused_called i l k g before f some refuses clear first = record {
    bytes = error_line g;
    goes =
        GoesBy.refused i l (bare g) lent
        (record { some = some; out = lent_bytes; room = enough; keeps = obeys_refused (command_meaning (rest s i) lent) lent g refuses clear first }) refuses;
    long = refl;
    there = refl;
  }
    where
      lent : Lent
      lent = with_out lent_bytes l

  -- A command that is carried out, beside a caller who has come to the same place.
  record Calls (i : ℕ) (l p : Lent) (k w : ℕ) (q : Lent) : Type 0 where
    answer : Given
    after : Lent
    calls : CallsAt s i l answer after
    done : answer.number ≡ DONE
    read : answer.one ≡ span (rest s i)
    both : Beside k answer.two w p after q

  calls_too :
      (i : ℕ) (l p : Lent) (k w : ℕ) (q : Lent) → Alike l p → Fine l → Fine p → ((token_at s i).kind ≡ END → ⊥) → First (text_needs (rest s i) p) DONE → Does (read_at s i) k p w q →
      Calls i l p k w q
  calls_too i l p k w q alike f g some met does =
      let lent : Lent = with_out lent_bytes l in
      let fine : Fine lent = other_fine lent_bytes l f in
      let same : Alike lent p = bytes_alike l p alike lent_bytes p.out in
      let met' = needs_alike (rest s i) DONE p lent (alike_back lent p same) met in
      let x = command_met (rest s i) lent (script_room (rest s i) lent fine enough) fine.sound met' in
      let done = x.keeps.when_done x.number_is in
      record {
        answer = x.answer;
        after = x.after;
        calls = record { some = some; out = lent_bytes; room = enough; keeps = x.keeps };
        done = x.number_is;
        read = done.bytes_read;
        both = beside (rest s i) lent p same fine g enough met' met k x.answer.two w x.after q done.done does;
      }

  -- What a script writes that does not end for want of bytes, a caller prints.
  pub plays_goes :
      (i : ℕ) (p : Lent) (k g w : ℕ) (out : List ℕ) → Plays s i p k g w out → (g ≡ SHORT → ⊥) → (l : Lent) → Alike l p → Fine l → Fine p → Called i l k g w p.out out
  plays_goes i p k g w out (Plays.at_end _ _ _ over-here) other l alike f h =
      record { bytes = []; goes = GoesBy.at_end i l over-here; long = omega arith; there = sym (over_none p.out k) }
  plays_goes i p k g w out (Plays.no_room _ _ _ some full) other l alike f h = absurd (other refl)
  plays_goes i p k g w out (Plays.refused _ _ _ _ some room unmet refuses) other l alike f h =
      let lent : Lent = with_out lent_bytes l in
      let same : Alike p lent = alike_back lent p (bytes_alike l p alike lent_bytes p.out) in
      refused_called i l k g p.out f some refuses (never_conflict (rest s i) p g unmet)
      (asked_for (rest s i) lent (other_fine lent_bytes l f) enough g (needs_alike (rest s i) g p lent same unmet))
  plays_goes i p k g w out (Plays.exited _ _ q _ v some room met does exit) other l alike f h =
      let x = calls_too i l p k v q alike f h some met does in
      record {
        bytes = take x.answer.two x.after.out;
        goes = GoesBy.exited i l x.answer x.after x.calls x.done exit;
        long = ap (λ (n : ℕ). k + n) x.both.as_many;
        there = x.both.there;
      }
  plays_goes i p k g w out (Plays.goes_on _ _ q _ v _ _ _ some room met does stays onward) other l alike f h =
      let x = calls_too i l p k v q alike f h some met does in
      let b₀ = take x.answer.two x.after.out in
      let y = plays_goes (after_command s i) q (k + v) g w out onward other x.after x.both.left_alike x.both.call_fine x.both.play_fine in
      record {
        bytes = b₀ ++ y.bytes;
        goes =
            GoesBy.goes_on i l x.answer x.after x.calls x.done stays g y.bytes
            (subst (λ (n : ℕ). Goes s ((token_at s i).from + n) x.after g y.bytes) (sym x.read) y.goes);
        long = omega (arith, y.long, length-append b₀ y.bytes, x.both.as_many);
        there =
            y.there ∙ ap (λ (o : List ℕ). over o (k + v) y.bytes) x.both.there
            ∙ ap (λ (n : ℕ). over (over p.out k b₀) (k + n) y.bytes) x.both.as_many ∙ over_append p.out k b₀ y.bytes;
      }

-- ---- whole scripts

-- **SHORT and DAMAGED are no end of a caller's script.**
pub caller_apart : (s : List ℕ) (l : Lent) (g : ℕ) (b : List ℕ) → RunsByCalls s l g b → (g ≡ SHORT → ⊥) × (g ≡ DAMAGED → ⊥)
caller_apart s l g b x = goes_apart s 0 x.after g b x.goes (fresh_fine x.after (start_fresh l x.answer x.after x.started x.accepted))

-- **What a caller prints, and the number he ends with, are those of the whole script**, for a script of at most TEXT bytes and where there are bytes enough.
pub calls_run :
    (s : List ℕ) (l : Lent) (g : ℕ) (b : List ℕ) → RunsByCalls s l g b → length s ≤ TEXT → (out : List ℕ) → length b + ROOM ≤ length out →
    RunsScript s out g (length b) (over out 0 b)
calls_run s l g b x fits out room =
    let fresh = start_fresh l x.answer x.after x.started x.accepted in
    let plays : Plays s 0 (blank out) 0 g (0 + length b) (over out 0 b) =
    goes_plays s 0 x.after g b x.goes (blank out) 0 (fresh_alike x.after (blank out) fresh (blank_fresh out)) (fresh_fine x.after fresh)
    (fresh_fine (blank out) (blank_fresh out)) (omega (arith, room)) in
    record {
      too_long = λ long. absurd (omega (arith, long, fits));
      too_long_short = λ long. absurd (omega (arith, long, fits));
      played = λ h. subst (λ (n : ℕ). Plays s 0 (blank out) 0 g n (over out 0 b)) (omega arith) plays;
    }

-- **And the other way round**: what the whole script prints, where it does not end for want of bytes, every caller prints who lends tables with room; and he ends with its number.
pub run_called :
    (s out : List ℕ) (g w : ℕ) (end : List ℕ) → RunsScript s out g w end → length s ≤ TEXT → (g ≡ SHORT → ⊥) → (l : Lent) → StartRoom l →
    (b : List ℕ) × (RunsByCalls s l g b × ((w ≡ length b) × (end ≡ over out 0 b)))
run_called s out g w end x fits other l room =
    let y = start_met l room in
    let fresh = start_fresh l y.answer y.after y.keeps y.number_is in
    let z = plays_goes s 0 (blank out) 0 g w end (x.played fits) other y.after (fresh_alike y.after (blank out) fresh (blank_fresh out)) (fresh_fine y.after fresh)
    (fresh_fine (blank out) (blank_fresh out)) in (
      z.bytes,
      (
        record { answer = y.answer; after = y.after; started = y.keeps; accepted = y.number_is; goes = z.goes },
        (z.long ∙ nothing-before (length z.bytes), z.there),
      ),
    )
  where
    nothing-before : (n : ℕ) → 0 + n ≡ n
    nothing-before n = omega arith

-- **So all callers print the same**, whatever they lend, and end with the same number.
pub callers_same : (s : List ℕ) (l m : Lent) (g h : ℕ) (b d : List ℕ) → RunsByCalls s l g b → RunsByCalls s m h d → length s ≤ TEXT → (g ≡ h) × (b ≡ d)
callers_same s l m g h b d x y fits =
    let out : List ℕ = replicate (length b + length d + ROOM) 0 in
    let long : length out ≡ length b + length d + ROOM = length-replicate {A = ℕ} (length b + length d + ROOM) 0 in
    let same = runs_same s out g h (length b) (length d) (over out 0 b) (over out 0 d) (calls_run s l g b x fits out (omega (arith, long)))
    (calls_run s m h d y fits out (omega (arith, long))) in (
      same.0,
      sym (part_written out 0 b (omega (arith, long))) ∙ ap (λ (n : ℕ). take n (over out 0 b)) same.1.0 ∙ ap (take (length d)) same.1.1
          ∙ part_written out 0 d (omega (arith, long)),
    )

-- **A caller and the whole script**: the same number, and the bytes that the caller prints are all that the script has written, where there are bytes enough.
pub caller_script :
    (s : List ℕ) (l : Lent) (g : ℕ) (b out : List ℕ) (h w : ℕ) (end : List ℕ) → RunsByCalls s l g b → RunsScript s out h w end → length s ≤ TEXT → length b + ROOM ≤ length out →
    (g ≡ h) × ((length b ≡ w) × (b ≡ take w end))
caller_script s l g b out h w end x y fits room =
    let same = runs_same s out g h (length b) w (over out 0 b) end (calls_run s l g b x fits out room) y in
    (same.0, (same.1.0, sym (part_written out 0 b (omega (arith, room))) ∙ ap (λ (n : ℕ). take n (over out 0 b)) same.1.0 ∙ ap (take w) same.1.1))

-- The same of any bytes lent to the script, where it does not end for want of them.
pub caller_ended :
    (s : List ℕ) (l : Lent) (g : ℕ) (b out : List ℕ) (h w : ℕ) (end : List ℕ) → RunsByCalls s l g b → RunsScript s out h w end → length s ≤ TEXT → (h ≡ SHORT → ⊥) →
    (g ≡ h) × ((length b ≡ w) × (over out 0 b ≡ end))
caller_ended s l g b out h w end x y fits other =
    let room = start_granted l (subst (First (start_meaning l).asks) x.accepted x.started.first_unmet) in
    let z = run_called s out h w end y fits other l room in
    let same = callers_same s l l g h b z.0 x z.1.0 fits in
    (same.0, (ap length same.1 ∙ sym z.1.1.0, ap (over out 0) same.1 ∙ sym z.1.1.1))
