-- **What is written is a first part of the answers, and all of them where the status is not FAILED**: the bytes that were taken, part after part, against those of the script
-- played at once. A part that pauses prints the beginning of what the whole prints, and the next part goes on from there.
use Prim.Native.Nat.{ℕ, ◌+◌, ◌≤◌, ◌<◌}
use native.Mathlib.Omega.{arith}
use mathlib.Core.Path.{◌≡◌, refl, sym, ◌∙◌, ap, subst}
use mathlib.Core.Bool.{true, false, true≢false}
use mathlib.Core.List.{List, [], ◌++◌, append_assoc, append-nil}
use lib.ListN.{length, take, drop, replicate, length-replicate, length-append, take-append-drop}
use lib.Seq.{take-take}
use Rattle.meaning.specs.Bounds.{ROOM, TEXT, DONE, SHORT}
use Rattle.meaning.proofs.Needs.{first_same}
use Rattle.write.specs.Written.{over}
use Rattle.write.proofs.Laws.{over_append, part_written}
use Rattle.script_meaning.specs.Record.{Lent}
use Rattle.script_meaning.specs.Commands.{text_needs}
use Rattle.script_meaning.specs.Whole.{rest, read_at, after_command, Plays, blank, RunsScript}
use Rattle.script_meaning.specs.Traces.{with_out}
use Rattle.script_meaning.proofs.Fixing.{does_same}
use Rattle.script_meaning.proofs.Ending.{plays_same}
use Rattle.script_run.specs.Reaching.{Reaches, Advances}
use Rattle.script_run.proofs.Parts.{comes, ends, handed_on}
use Rattle.program.specs.Handing.{FAILED, status, Handed, Answered}

-- Bytes that are the same where they were written over the same ones are the same.
same_bytes : (o p q : List ℕ) → length p ≤ length o → length p ≡ length q → over o 0 p ≡ over o 0 q → p ≡ q
same_bytes o p q room long is =
    sym (part_written o 0 p (omega (arith, room))) ∙ ap (λ (x : List ℕ). take (length p) (drop 0 x)) is ∙ ap (λ (n : ℕ). take n (drop 0 (over o 0 q))) long
    ∙ part_written o 0 q (omega (arith, room, long))

-- The first k of w bytes, and the others.
cut_at : (x : List ℕ) (k w : ℕ) → k < w → take w x ≡ take k x ++ drop k (take w x)
cut_at x k w h = sym (take-append-drop k (take w x)) ∙ ap (λ (y : List ℕ). y ++ drop k (take w x)) (take-take k w x (omega (arith, h)))

module _ (s : List ℕ) where
  -- However a script plays from a place on, so it plays from every place that is reached from there.
  reaches_rest : (i : ℕ) (l : Lent) (k j : ℕ) (m : Lent) (v g w : ℕ) (out : List ℕ) → Reaches s i l k j m v → Plays s i l k g w out → Plays s j m v g w out
  reaches_rest i l k j m v g w out (Reaches.there _ _ _) plays = plays
  reaches_rest i l k j m v g w out (Reaches.carried _ _ l₁ _ u _ _ _ some room met does stays on) (Plays.at_end _ _ _ over-here) = absurd (some over-here)
  reaches_rest i l k j m v g w out (Reaches.carried _ _ l₁ _ u _ _ _ some room met does stays on) (Plays.no_room _ _ _ some' full') = absurd (omega (arith, full', room))
  reaches_rest i l k j m v g w out (Reaches.carried _ _ l₁ _ u _ _ _ some room met does stays on) (Plays.refused _ _ _ f' some' room' unmet' refuses') =
      absurd (refuses' (first_same (text_needs (rest s i) l) g DONE unmet' met))
  reaches_rest i l k j m v g w out (Reaches.carried _ _ l₁ _ u _ _ _ some room met does stays on) (Plays.exited _ _ m' _ n' some' room' met' does' exit') =
      absurd (true≢false (sym exit' ∙ stays))
  reaches_rest i l k j m v g w out (Reaches.carried _ _ l₁ _ u _ _ _ some room met does stays on) (Plays.goes_on _ _ l₂ _ n' _ _ _ some' room' met' does' stays' onward') =
      let same = does_same (read_at s i) k l u n' l₁ l₂ does does' in
      reaches_rest (after_command s i) l₁ (k + u) j m v g w out on
      (subst (λ (x : ℕ). Plays s (after_command s i) l₁ (k + x) g w out) (sym same.0) (subst (λ (x : Lent). Plays s (after_command s i) x (k + n') g w out) (sym same.1) onward'))

  -- The script from place i on, with l lent, prints the bytes p and ends with the number g, wherever there is room for them and for one command more.
  abbrev Prints : ℕ → Lent → ℕ → List ℕ → Type 0
  Prints i l g p = (o : List ℕ) (h : ℕ) → h + length p + ROOM ≤ length o → Plays s i (with_out o l) h g (h + length p) (over o h p)

  one_way : (i : ℕ) (l : Lent) (g : ℕ) (p : List ℕ) (h : ℕ) (q : List ℕ) → Prints i l g p → Prints i l h q → (g ≡ h) × (p ≡ q)
  one_way i l g p h q a b =
      let o : List ℕ = replicate {A = ℕ} (length p + length q + ROOM) 0 in
      let long : length o ≡ length p + length q + ROOM = length-replicate {A = ℕ} (length p + length q + ROOM) 0 in
      let same = plays_same s i (with_out o l) 0 g (0 + length p) (over o 0 p) (a o 0 (omega (arith, long))) h (0 + length q) (over o 0 q) (b o 0 (omega (arith, long))) in
      (same.0, same_bytes o p q (omega (arith, long)) (omega (arith, same.1.0)) same.1.1)

  -- The last part prints all that is left.
  last_is :
      (i : ℕ) (l : Lent) (f j w : ℕ) (l' : Lent) → Advances s i l f false j w l' → (g : ℕ) (p : List ℕ) → Prints i l g p → (f ≡ g) × (take w l'.out ≡ p)
  last_is i l f j w l' part g p whole =
      let e = ends s i l 0 f w l'.out part.plays (part.ended refl) in
      let one = one_way i l f e.printed g p e.elsewhere whole in
      (one.0, handed_on s l.out l'.out w e.printed e.long e.there part.written_in ∙ one.1)

  -- A part that pauses prints the beginning, and the rest is printed from the place that it reached.
  record Onward (l' : Lent) (j w g : ℕ) (p : List ℕ) : Type 0 where
    rest : List ℕ
    is : p ≡ take w l'.out ++ rest
    prints : Prints j l' g rest

  onward :
      (i : ℕ) (l : Lent) (f j w : ℕ) (l' : Lent) → Advances s i l f true j w l' → (g : ℕ) (p : List ℕ) → Prints i l g p → (g ≡ SHORT → ⊥) → Onward l' j w g p
  onward i l f j w l' part g p whole other =
      let c = comes s i l 0 j l' w (part.reached refl) in
      let o : List ℕ = replicate {A = ℕ} (length p + length c.printed + ROOM) 0 in
      let long : length o ≡ length p + length c.printed + ROOM = length-replicate {A = ℕ} (length p + length c.printed + ROOM) 0 in
      let then =
      reaches_rest i (with_out o l) 0 j (with_out (over o 0 c.printed) l') (0 + length c.printed) g (0 + length p) (over o 0 p) (c.elsewhere o 0 (omega (arith, long)))
      (whole o 0 (omega (arith, long))) in
      let e = ends s j (with_out (over o 0 c.printed) l') (0 + length c.printed) g (0 + length p) (over o 0 p) then other in
      let both : over o 0 p ≡ over o 0 (c.printed ++ e.printed) = e.there ∙ over_append o 0 c.printed e.printed in
      let size : length p ≡ length (c.printed ++ e.printed) = omega (arith, length-append c.printed e.printed, e.long) in
      let same : take w l'.out ≡ c.printed = handed_on s l.out l'.out w c.printed c.long c.there part.written_in in
      record {
        rest = e.printed;
        is = same_bytes o p (c.printed ++ e.printed) (omega (arith, long)) size both ∙ ap (λ (x : List ℕ). x ++ e.printed) (sym same);
        prints = e.elsewhere;
      }

  -- What was taken, b, against all that is printed, p, where the script ends with the number g and the program with the status r.
  record Right (g r : ℕ) (b p : List ℕ) : Type 0 where
    rest : List ℕ
    first : p ≡ b ++ rest
    whole : (r ≡ FAILED → ⊥) → (r ≡ status g) × (b ≡ p)

  right : (i : ℕ) (l : Lent) (r : ℕ) (b : List ℕ) → Handed s i l r b → (g : ℕ) (p : List ℕ) → Prints i l g p → (g ≡ SHORT → ⊥) → Right g r b p
  right i l r b (Handed.all _ _ f j w l' part) g p whole other =
      let z = last_is i l f j w l' part g p whole in
      record { rest = []; first = sym z.1 ∙ sym (append-nil (take w l'.out)); whole = λ n. (ap status z.0, z.1) }
  right i l r b (Handed.more _ _ f j w l' _ b₁ part on) g p whole other =
      let z = onward i l f j w l' part g p whole other in
      let y = right j l' r b₁ on g z.rest z.prints other in
      record {
        rest = y.rest;
        first = z.is ∙ ap (λ (x : List ℕ). take w l'.out ++ x) y.first ∙ sym (append_assoc (take w l'.out) b₁ y.rest);
        whole = λ n. ((y.whole n).0, ap (λ (x : List ℕ). take w l'.out ++ x) (y.whole n).1 ∙ sym z.is);
      }
  right i l r b (Handed.cut _ _ f j w l' k false part less) g p whole other =
      let z = last_is i l f j w l' part g p whole in
      record { rest = drop k (take w l'.out); first = sym z.1 ∙ cut_at l'.out k w less; whole = λ n. absurd (n refl) }
  right i l r b (Handed.cut _ _ f j w l' k true part less) g p whole other =
      let z = onward i l f j w l' part g p whole other in
      record {
        rest = drop k (take w l'.out) ++ z.rest;
        first = z.is ∙ ap (λ (x : List ℕ). x ++ z.rest) (cut_at l'.out k w less) ∙ append_assoc (take k l'.out) (drop k (take w l'.out)) z.rest;
        whole = λ n. absurd (n refl);
      }

-- The bytes b that were taken, where the whole script, played at once into o, ends with the number g, has w bytes written and leaves `end`.
pub record Shown (o : List ℕ) (g w : ℕ) (end : List ℕ) (r : ℕ) (b : List ℕ) : Type 0 where
  pub printed : List ℕ
  pub rest : List ℕ
  pub there : end ≡ over o 0 printed
  pub long : length printed ≡ w
  pub first : printed ≡ b ++ rest
  pub whole : (r ≡ FAILED → ⊥) → (r ≡ status g) × (b ≡ printed)

-- **The program against the whole script**, where that has room for its answers: what was taken is a first part of what the script prints; where the status is not FAILED it is
-- all of it, and the status is the one of the number that the script ends with.
pub answered_runs :
    (s : List ℕ) (r : ℕ) (short : length s ≤ TEXT) (a : Answered s r) (o : List ℕ) (g w : ℕ) (end : List ℕ) → RunsScript s o g w end → (g ≡ SHORT → ⊥) →
    Shown o g w end r (a.played short).1.bytes
answered_runs s r short a o g w end run other =
    let e = ends s 0 (blank o) 0 g w end (run.played short) other in
    let y = right s 0 (blank (a.played short).0) r (a.played short).1.bytes (a.played short).1.handed g e.printed e.elsewhere other in
    record {
      printed = e.printed;
      rest = y.rest;
      there = e.there;
      long = omega (arith, e.long);
      first = y.first;
      whole = y.whole;
    }
