-- **Determined**: a whole script has one outcome only. At each place one way of going on or ending applies, and every command does one thing only.
use Prim.Native.Nat.{ℕ, ◌+◌, ◌≤◌}
use native.Mathlib.Omega.{arith}
use native.Mathlib.Decide.{dec_le}
use mathlib.Core.Path.{◌≡◌, refl, sym, ◌∙◌, ap, subst}
use mathlib.Core.Bool.{true≢false}
use mathlib.Core.List.{List}
use lib.ListN.{length}
use Rattle.meaning.specs.Bounds.{ROOM, TEXT, DONE, SIZE}
use Rattle.meaning.proofs.Needs.{first_same}
use Rattle.write.specs.Written.{over}
use Rattle.script_meaning.specs.Record.{Lent}
use Rattle.script_meaning.specs.Commands.{text_needs}
use Rattle.script_meaning.specs.Whole.{error_line, rest, read_at, after_command, Plays, blank, RunsScript}
use Rattle.script_meaning.proofs.Fixing.{does_same}

-- The same number, as many bytes written, and the same bytes left.
abbrev pub SameEnd : (g h v w : ℕ) → (out end : List ℕ) → Type 0
SameEnd g h v w out end = (g ≡ h) × ((v ≡ w) × (out ≡ end))

-- Two refusals with the same number.
refused_same :
    (k : ℕ) (l : Lent) (g h : ℕ) → g ≡ h → SameEnd g h (k + length (error_line g)) (k + length (error_line h)) (over l.out k (error_line g)) (over l.out k (error_line h))
refused_same k l g h e = (e, (ap (λ (x : ℕ). k + length (error_line x)) e, ap (λ (x : ℕ). over l.out k (error_line x)) e))

-- From one place on, with the same lent, a script ends in one way only.
pub plays_same :
    (s : List ℕ) (i : ℕ) (l : Lent) (k g v : ℕ) (out : List ℕ) → Plays s i l k g v out → (h w : ℕ) (end : List ℕ) → Plays s i l k h w end → SameEnd g h v w out end
plays_same s i l k g v out (Plays.at_end _ _ _ over) h w end (Plays.at_end _ _ _ over') = (refl, (refl, refl))
plays_same s i l k g v out (Plays.at_end _ _ _ over) h w end (Plays.no_room _ _ _ some' full') = absurd (some' over)
plays_same s i l k g v out (Plays.at_end _ _ _ over) h w end (Plays.refused _ _ _ f' some' room' unmet' refuses') = absurd (some' over)
plays_same s i l k g v out (Plays.at_end _ _ _ over) h w end (Plays.exited _ _ m' _ n' some' room' met' does' exit') = absurd (some' over)
plays_same s i l k g v out (Plays.at_end _ _ _ over) h w end (Plays.goes_on _ _ m' _ n' _ _ _ some' room' met' does' stays' onward') = absurd (some' over)
plays_same s i l k g v out (Plays.no_room _ _ _ some full) h w end (Plays.at_end _ _ _ over') = absurd (some over')
plays_same s i l k g v out (Plays.no_room _ _ _ some full) h w end (Plays.no_room _ _ _ some' full') = (refl, (refl, refl))
plays_same s i l k g v out (Plays.no_room _ _ _ some full) h w end (Plays.refused _ _ _ f' some' room' unmet' refuses') = absurd (omega (arith, full, room'))
plays_same s i l k g v out (Plays.no_room _ _ _ some full) h w end (Plays.exited _ _ m' _ n' some' room' met' does' exit') = absurd (omega (arith, full, room'))
plays_same s i l k g v out (Plays.no_room _ _ _ some full) h w end (Plays.goes_on _ _ m' _ n' _ _ _ some' room' met' does' stays' onward') = absurd (omega (arith, full, room'))
plays_same s i l k g v out (Plays.refused _ _ _ f some room unmet refuses) h w end (Plays.at_end _ _ _ over') = absurd (some over')
plays_same s i l k g v out (Plays.refused _ _ _ f some room unmet refuses) h w end (Plays.no_room _ _ _ some' full') = absurd (omega (arith, full', room))
plays_same s i l k g v out (Plays.refused _ _ _ f some room unmet refuses) h w end (Plays.refused _ _ _ f' some' room' unmet' refuses') =
    refused_same k l g h (first_same (text_needs (rest s i) l) g h unmet unmet')
plays_same s i l k g v out (Plays.refused _ _ _ f some room unmet refuses) h w end (Plays.exited _ _ m' _ n' some' room' met' does' exit') =
    absurd (refuses (first_same (text_needs (rest s i) l) g DONE unmet met'))
plays_same s i l k g v out (Plays.refused _ _ _ f some room unmet refuses) h w end (Plays.goes_on _ _ m' _ n' _ _ _ some' room' met' does' stays' onward') =
    absurd (refuses (first_same (text_needs (rest s i) l) g DONE unmet met'))
plays_same s i l k g v out (Plays.exited _ _ m _ n some room met does exit) h w end (Plays.at_end _ _ _ over') = absurd (some over')
plays_same s i l k g v out (Plays.exited _ _ m _ n some room met does exit) h w end (Plays.no_room _ _ _ some' full') = absurd (omega (arith, full', room))
plays_same s i l k g v out (Plays.exited _ _ m _ n some room met does exit) h w end (Plays.refused _ _ _ f' some' room' unmet' refuses') =
    absurd (refuses' (first_same (text_needs (rest s i) l) h DONE unmet' met))
plays_same s i l k g v out (Plays.exited _ _ m _ n some room met does exit) h w end (Plays.exited _ _ m' _ n' some' room' met' does' exit') =
    let same = does_same (read_at s i) k l n n' m m' does does' in
    (refl, (ap (λ (x : ℕ). k + x) same.0, ap (λ (x : Lent). x.out) same.1))
plays_same s i l k g v out (Plays.exited _ _ m _ n some room met does exit) h w end (Plays.goes_on _ _ m' _ n' _ _ _ some' room' met' does' stays' onward') =
    absurd (true≢false (sym exit ∙ stays'))
plays_same s i l k g v out (Plays.goes_on _ _ m _ n _ _ _ some room met does stays onward) h w end (Plays.at_end _ _ _ over') = absurd (some over')
plays_same s i l k g v out (Plays.goes_on _ _ m _ n _ _ _ some room met does stays onward) h w end (Plays.no_room _ _ _ some' full') = absurd (omega (arith, full', room))
plays_same s i l k g v out (Plays.goes_on _ _ m _ n _ _ _ some room met does stays onward) h w end (Plays.refused _ _ _ f' some' room' unmet' refuses') =
    absurd (refuses' (first_same (text_needs (rest s i) l) h DONE unmet' met))
plays_same s i l k g v out (Plays.goes_on _ _ m _ n _ _ _ some room met does stays onward) h w end (Plays.exited _ _ m' _ n' some' room' met' does' exit') =
    absurd (true≢false (sym exit' ∙ stays))
plays_same s i l k g v out (Plays.goes_on _ _ m _ n _ _ _ some room met does stays onward) h w end (Plays.goes_on _ _ m' _ n' _ _ _ some' room' met' does' stays' onward') =
    let same = does_same (read_at s i) k l n n' m m' does does' in
    plays_same s (after_command s i) m (k + n) g v out onward h w end
    (subst (λ (x : ℕ). Plays s (after_command s i) m (k + x) h w end) (sym same.0) (subst (λ (x : Lent). Plays s (after_command s i) x (k + n') h w end) (sym same.1) onward'))

-- Two outcomes of a whole script on the same bytes lent are one.
pub runs_same : (s out : List ℕ) (g h v w : ℕ) (end other : List ℕ) → RunsScript s out g v end → RunsScript s out h w other → SameEnd g h v w end other
runs_same s out g h v w end other a b = by_size (dec_le (length s) TEXT) (dec_le ROOM (length out))
  where
    alike : (n m : ℕ) (x : List ℕ) → (g ≡ n) × ((v ≡ m) × (end ≡ x)) → (h ≡ n) × ((w ≡ m) × (other ≡ x)) → SameEnd g h v w end other
    alike n m x p q = (p.0 ∙ sym q.0, (p.1.0 ∙ sym q.1.0, p.1.1 ∙ sym q.1.1))

    by_size : Dec (length s ≤ TEXT) → Dec (ROOM ≤ length out) → SameEnd g h v w end other
    by_size (yes fits) room = plays_same s 0 (blank out) 0 g v end (a.played fits) h w other (b.played fits)
    by_size (no long) (yes room) = alike SIZE (length (error_line SIZE)) (over out 0 (error_line SIZE)) (a.too_long (omega arith) room) (b.too_long (omega arith) room)
    by_size (no long) (no short) = alike _ 0 out (a.too_long_short (omega arith) (omega arith)) (b.too_long_short (omega arith) (omega arith))
