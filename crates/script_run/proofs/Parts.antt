-- A script played in parts prints what it prints at once: the bytes handed on, part after part, are those of one play with room for all of them.
use Prim.Native.Nat.{ℕ, ◌+◌, ◌≤◌}
use native.Mathlib.Omega.{arith}
use mathlib.Core.Path.{◌≡◌, refl, sym, ◌∙◌, ap, subst}
use mathlib.Core.List.{List, [], ◌++◌}
use lib.ListN.{length, take, length-append}
use Rattle.meaning.specs.Bounds.{ROOM, TEXT, DONE, SHORT}
use Rattle.write.specs.Written.{over}
use Rattle.write.proofs.Laws.{length_over, over_append, over_none, part_written}
use Rattle.script_meaning.specs.Record.{Lent}
use Rattle.script_meaning.specs.Whole.{error_line, rest, read_at, after_command, Plays, blank, RunsScript}
use Rattle.script_meaning.specs.Traces.{with_out}
use Rattle.script_run.specs.Reaching.{Reaches, Parts}
use Rattle.script_run.proofs.Reaching.{reaches_plays}
use Rattle.script_run.proofs.Printing.{first_same, prints_there, after_both}

module _ (s : List ℕ) where
  -- From place i to place j the bytes b are printed, and the same into any other bytes that have room for them and for one command more.
  pub record Comes (i : ℕ) (l : Lent) (k j : ℕ) (m : Lent) (v : ℕ) : Type 0 where
    pub printed : List ℕ
    pub long : k + length printed ≡ v
    pub there : m.out ≡ over l.out k printed
    pub elsewhere :
        (o : List ℕ) (h : ℕ) → h + length printed + ROOM ≤ length o → Reaches s i (with_out o l) h j (with_out (over o h printed) m) (h + length printed)

  pub comes : (i : ℕ) (l : Lent) (k j : ℕ) (m : Lent) (v : ℕ) → Reaches s i l k j m v → Comes i l k j m v
  comes i l k j m v (Reaches.there _ _ _) = record {
    printed = [];
    long = omega arith;
    there = sym (over_none l.out k);
    elsewhere = λ o h room.
        subst (λ (x : List ℕ). Reaches s i (with_out o l) h i (with_out x l) (h + 0)) (sym (over_none o h))
        (subst (λ (x : ℕ). Reaches s i (with_out o l) h i (with_out o l) x) (omega arith) (Reaches.there i (with_out o l) h));
  }
  comes i l k j m v (Reaches.carried _ _ l₁ _ w _ _ _ some room met does stays on) =
      let p = prints_there (read_at s i) k l w l₁ does in
      let c = comes (after_command s i) l₁ (k + w) j m v on in
      record {
        printed = p.printed ++ c.printed;
        long = omega (arith, length-append p.printed c.printed, p.long, c.long);
        there = c.there ∙ ap (λ (x : List ℕ). over x (k + w) c.printed) p.there ∙ after_both l.out k w p.printed c.printed p.long;
        elsewhere = λ o h fits.
            let both : length (p.printed ++ c.printed) ≡ w + length c.printed = length-append p.printed c.printed ∙ ap (λ (x : ℕ). x + length c.printed) p.long in
            let then = c.elsewhere (over o h p.printed) (h + w) (omega (arith, fits, both, length_over o h p.printed)) in
            Reaches.carried i (with_out o l) (with_out (over o h p.printed) l₁) h w j (with_out (over o h (p.printed ++ c.printed)) m) (h + length (p.printed ++ c.printed)) some
            (omega (arith, fits, both)) (first_same (rest s i) l o DONE met) (p.elsewhere o h) stays
            (subst (λ (x : List ℕ). Reaches s (after_command s i) (with_out (over o h p.printed) l₁) (h + w) j (with_out x m) (h + length (p.printed ++ c.printed)))
            (after_both o h w p.printed c.printed p.long)
            (subst (λ (x : ℕ). Reaches s (after_command s i) (with_out (over o h p.printed) l₁) (h + w) j (with_out (over (over o h p.printed) (h + w) c.printed) m) x)
            (omega (arith, both)) then));
      }

  -- A script that ends prints the bytes b, and the same into any other bytes that have room for them and for one command more.
  pub record Ends (i : ℕ) (l : Lent) (k g w : ℕ) (out : List ℕ) : Type 0 where
    pub printed : List ℕ
    pub long : k + length printed ≡ w
    pub there : out ≡ over l.out k printed
    pub elsewhere : (o : List ℕ) (h : ℕ) → h + length printed + ROOM ≤ length o → Plays s i (with_out o l) h g (h + length printed) (over o h printed)

  pub ends : (i : ℕ) (l : Lent) (k g w : ℕ) (out : List ℕ) → Plays s i l k g w out → (g ≡ SHORT → ⊥) → Ends i l k g w out
  ends i l k g w out (Plays.at_end _ _ _ over-here) other = record {
    printed = [];
    long = omega arith;
    there = sym (over_none l.out k);
    elsewhere = λ o h room.
        subst (λ (x : List ℕ). Plays s i (with_out o l) h DONE (h + 0) x) (sym (over_none o h))
        (subst (λ (x : ℕ). Plays s i (with_out o l) h DONE x o) (omega arith) (Plays.at_end i (with_out o l) h over-here));
  }
  ends i l k g w out (Plays.no_room _ _ _ some short) other = absurd (other refl)
  ends i l k g w out (Plays.refused _ _ _ _ some room first not_done) other = record {
    printed = error_line g;
    long = refl;
    there = refl;
    elsewhere = λ o h fits. Plays.refused i (with_out o l) h g some (omega (arith, fits)) (first_same (rest s i) l o g first) not_done;
  }
  ends i l k g w out (Plays.exited _ _ l₁ _ u some room met does over-here) other =
      let p = prints_there (read_at s i) k l u l₁ does in
      record {
        printed = p.printed;
        long = omega (arith, p.long);
        there = p.there;
        elsewhere = λ o h fits.
            subst (λ (x : ℕ). Plays s i (with_out o l) h DONE (h + x) (over o h p.printed)) (sym p.long)
            (Plays.exited i (with_out o l) (with_out (over o h p.printed) l₁) h u some (omega (arith, fits))
            (first_same (rest s i) l o DONE met) (p.elsewhere o h) over-here);
      }
  ends i l k g w out (Plays.goes_on _ _ l₁ _ u _ _ _ some room met does stays on) other =
      let p = prints_there (read_at s i) k l u l₁ does in
      let c = ends (after_command s i) l₁ (k + u) g w out on other in
      record {
        printed = p.printed ++ c.printed;
        long = omega (arith, length-append p.printed c.printed, p.long, c.long);
        there = c.there ∙ ap (λ (x : List ℕ). over x (k + u) c.printed) p.there ∙ after_both l.out k u p.printed c.printed p.long;
        elsewhere = λ o h fits.
            let both : length (p.printed ++ c.printed) ≡ u + length c.printed = length-append p.printed c.printed ∙ ap (λ (x : ℕ). x + length c.printed) p.long in
            let then = c.elsewhere (over o h p.printed) (h + u) (omega (arith, fits, both, length_over o h p.printed)) in
            Plays.goes_on i (with_out o l) (with_out (over o h p.printed) l₁) h u g (h + length (p.printed ++ c.printed)) (over o h (p.printed ++ c.printed)) some
            (omega (arith, fits, both)) (first_same (rest s i) l o DONE met) (p.elsewhere o h) stays
            (subst (λ (x : List ℕ). Plays s (after_command s i) (with_out (over o h p.printed) l₁) (h + u) g (h + length (p.printed ++ c.printed)) x)
            (after_both o h u p.printed c.printed p.long)
            (subst (λ (x : ℕ). Plays s (after_command s i) (with_out (over o h p.printed) l₁) (h + u) g x (over (over o h p.printed) (h + u) c.printed))
            (omega (arith, both)) then));
      }

  -- What a part hands on is what it printed.
  pub handed_on : (l out : List ℕ) (w : ℕ) (b : List ℕ) → 0 + length b ≡ w → out ≡ over l 0 b → w ≤ length l → take w out ≡ b
  handed_on l out w b long is room =
      let all : w ≡ length b = omega (arith, long) in
      ap (λ (x : List ℕ). take w x) is ∙ ap (λ (x : ℕ). take x (over l 0 b)) all ∙ part_written l 0 b (omega (arith, long, room))

  -- **All that is handed on** is what the script prints where it is played at once, into bytes that have room for it and for one command more.
  pub parts_play :
      (i : ℕ) (l : Lent) (g : ℕ) (b : List ℕ) → Parts s i l g b → (o : List ℕ) (h : ℕ) → h + length b + ROOM ≤ length o →
      Plays s i (with_out o l) h g (h + length b) (over o h b)
  parts_play i l g b (Parts.last _ _ _ j w l' part) o h fits =
      let e = ends i l 0 g w l'.out part.plays (part.ended refl) in
      let same : take w l'.out ≡ e.printed = handed_on l.out l'.out w e.printed e.long e.there part.written_in in
      subst (λ (x : List ℕ). Plays s i (with_out o l) h g (h + length x) (over o h x)) (sym same)
      (e.elsewhere o h (subst (λ (x : List ℕ). h + length x + ROOM ≤ length o) same fits))
  parts_play i l g b (Parts.more _ _ f j w l' _ b₁ part on) o h fits =
      let c = comes i l 0 j l' w (part.reached refl) in
      let same : take w l'.out ≡ c.printed = handed_on l.out l'.out w c.printed c.long c.there part.written_in in
      let room : h + length (c.printed ++ b₁) + ROOM ≤ length o = subst (λ (x : List ℕ). h + length (x ++ b₁) + ROOM ≤ length o) same fits in
      let both = length-append c.printed b₁ in
      let then : Plays s j (with_out (over o h c.printed) l') (h + length c.printed) g (h + length c.printed + length b₁) (over (over o h c.printed) (h + length c.printed) b₁) =
      parts_play j l' g b₁ on (over o h c.printed) (h + length c.printed) (omega (arith, room, both, length_over o h c.printed)) in
      subst (λ (x : List ℕ). Plays s i (with_out o l) h g (h + length (x ++ b₁)) (over o h (x ++ b₁))) (sym same)
      (reaches_plays s i (with_out o l) h j (with_out (over o h c.printed) l') (h + length c.printed) g (h + length (c.printed ++ b₁)) (over o h (c.printed ++ b₁))
      (c.elsewhere o h (omega (arith, room, both)))
      (subst (λ (x : List ℕ). Plays s j (with_out (over o h c.printed) l') (h + length c.printed) g (h + length (c.printed ++ b₁)) x)
      (over_append o h c.printed b₁)
      (subst (λ (x : ℕ). Plays s j (with_out (over o h c.printed) l') (h + length c.printed) g x (over (over o h c.printed) (h + length c.printed) b₁))
      (omega (arith, both)) then)))

-- So whoever plays a script in parts from fresh tables on, and hands on each part's bytes before the next, hands on what the whole script prints.
pub parts_run :
    (s out : List ℕ) (g : ℕ) (b : List ℕ) → length s ≤ TEXT → Parts s 0 (blank out) g b → (o : List ℕ) → length b + ROOM ≤ length o →
    RunsScript s o g (length b) (over o 0 b)
parts_run s out g b short parts o room =
    let whole : Plays s 0 (blank o) 0 g (0 + length b) (over o 0 b) = parts_play s 0 (blank out) g b parts o 0 (omega (arith, room)) in
    let played : Plays s 0 (blank o) 0 g (length b) (over o 0 b) = subst (λ (x : ℕ). Plays s 0 (blank o) 0 g x (over o 0 b)) (omega arith) whole in
    record {
      too_long = λ h. absurd (omega (arith, h, short));
      too_long_short = λ h. absurd (omega (arith, h, short));
      played = λ h. played;
    }
