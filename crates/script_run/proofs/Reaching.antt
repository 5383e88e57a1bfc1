-- A script carried out in parts is the script carried out at once: however it plays from a place that is reached, so it plays from where it began.
use Prim.Native.Nat.{ℕ, ◌+◌, ◌≤◌, ◌<◌}
use native.Mathlib.Omega.{arith}
use native.Mathlib.Decide.{ℕ_discrete}
use mathlib.Core.Path.{◌≡◌, refl, sym, subst}
use mathlib.Core.Bool.{Bool, true, false}
use mathlib.Core.List.{List}
use lib.ListN.{length}
use Rattle.meaning.specs.Bounds.{ROOM}
use Rattle.script_meaning.specs.Record.{Lent}
use Rattle.script_meaning.specs.Whole.{after_command, Plays}
use Rattle.script_run.specs.Reaching.{Reaches, Advances}
use Rattle.script_run.specs.Stepping.{Waits, Steps}

module _ (s : List ℕ) where
  pub reaches_plays :
      (i : ℕ) (l : Lent) (k j : ℕ) (m : Lent) (v g w : ℕ) (out : List ℕ) → Reaches s i l k j m v → Plays s j m v g w out → Plays s i l k g w out
  reaches_plays i l k j m v g w out (Reaches.there _ _ _) then = then
  reaches_plays i l k j m v g w out (Reaches.carried _ _ l₁ _ u _ _ _ some room met does stays on) then =
      Plays.goes_on i l l₁ k u g w out some room met does stays (reaches_plays (after_command s i) l₁ (k + u) j m v g w out on then)

  pub reaches_on :
      (i : ℕ) (l : Lent) (k j : ℕ) (m : Lent) (v h : ℕ) (n : Lent) (w : ℕ) → Reaches s i l k j m v → Reaches s j m v h n w → Reaches s i l k h n w
  reaches_on i l k j m v h n w (Reaches.there _ _ _) then = then
  reaches_on i l k j m v h n w (Reaches.carried _ _ l₁ _ u _ _ _ some room met does stays on) then =
      Reaches.carried i l l₁ k u h n w some room met does stays (reaches_on (after_command s i) l₁ (k + u) j m v h n w on then)

-- A part is under way: from place i on, with l lent, place j is reached, with m lent and k bytes written.
pub record Underway (s : List ℕ) (i : ℕ) (l : Lent) (j k : ℕ) (m : Lent) : Type 0 where
  pub reached : Reaches s i l 0 j m k
  pub same_room : length m.out ≡ length l.out
  pub written_in : k ≤ length l.out
  pub not_back : i ≤ j
  pub still : j ≡ i → k ≡ 0
  pub in_text : i < j → j ≤ length s

pub underway_first : (s : List ℕ) (i : ℕ) (l : Lent) → Underway s i l i 0 l
underway_first s i l = record {
  reached = Reaches.there i l 0;
  same_room = refl;
  written_in = omega arith;
  not_back = omega arith;
  still = λ e. refl;
  in_text = λ h. absurd (omega (arith, h));
}

module _ {s : List ℕ} {i : ℕ} {l : Lent} {j k : ℕ} {m : Lent} {g : ℕ} {going paused : Bool} {j' e : ℕ} {m' : Lent} (u : Underway s i l j k m) (step : Steps s j m k g going paused j' e m') where
  in_room : e ≤ length l.out
  in_room = omega (arith, step.written_in (omega (arith, u.written_in, u.same_room)), u.same_room)

  -- After a command that was carried out it goes on.
  pub underway_on : going ≡ true → length m'.out ≡ length m.out → Underway s i l j' e m'
  underway_on on same =
      let ahead = step.onward on in
      record {
        reached = reaches_on s i l 0 j m k j' m' e u.reached (step.on on);
        same_room = omega (arith, same, u.same_room);
        written_in = in_room;
        not_back = omega (arith, u.not_back, ahead.0);
        still = λ z. absurd (omega (arith, z, u.not_back, ahead.0));
        in_text = λ h. ahead.1;
      }

  moved : length l.out < k + ROOM → ROOM ≤ length l.out → Dec (j ≡ i) → i < j
  moved full room (yes same) = absurd (omega (arith, full, room, u.still same))
  moved full room (no other) = omega (arith, other, u.not_back)

  waiting : Waits j m k j' e m' → Reaches s i l 0 j' m' e
  waiting w =
      subst (λ (x : ℕ). Reaches s i l 0 x m' e) (sym w.same_place)
      (subst (λ (x : ℕ). Reaches s i l 0 j m' x) (sym w.same_written) (subst (λ (x : Lent). Reaches s i l 0 j x k) (sym w.same_lent) u.reached))

  -- Where no command was carried out, or none is to follow, the part ends.
  pub underway_ends : going ≡ false → Advances s i l g paused j' e m'
  underway_ends stop = record {
    plays = reaches_plays s i l 0 j m k g e m'.out u.reached (step.ends stop);
    written_in = in_room;
    reached = λ p. waiting (step.waits p);
    filled = λ p. omega (arith, (step.waits p).no_room, (step.waits p).same_written, u.same_room);
    onward = λ p room.
        let w = step.waits p in
        let ahead = moved (omega (arith, w.no_room, u.same_room)) room (ℕ_discrete j i) in
        (omega (arith, ahead, w.same_place), omega (arith, u.in_text ahead, w.same_place));
    ended = step.not_short;
  }
