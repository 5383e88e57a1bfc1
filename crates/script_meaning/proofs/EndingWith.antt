-- **A whole script ends with exactly the number told from its text alone**, where there is room for its answers; and the text tells one number only, which is never SHORT.
use Prim.Native.Nat.{ℕ, ◌+◌, ◌≤◌}
use native.Mathlib.Omega.{arith}
use mathlib.Core.Path.{◌≡◌, refl, sym, ◌∙◌, ap, subst}
use mathlib.Core.Bool.{true, false, true≢false, false≢true}
use mathlib.Core.List.{List, [], ◌∷◌}
use mathlib.Core.Logic.{◌⊎◌, inl, inr}
use lib.Dec.{T}
use lib.ListN.{length}
use Rattle.meaning.specs.Bounds.{TEXT, RULES, DONE, SHORT, FULL}
use Rattle.meaning.specs.Promise.{needs}
use Rattle.reading.specs.Tree.{rules_of_term, Command}
use Rattle.reading.specs.Reading.{Why, Read}
use Rattle.reading.specs.Saying.{term_needs}
use Rattle.script_meaning.specs.Record.{Lent}
use Rattle.script_meaning.specs.Whole.{exits, rest, read_at, after_command, Plays, blank, RunsScript}
use Rattle.script_meaning.specs.Traces.{Satisfiable}
use Rattle.script_meaning.specs.Accepted.{Story, begun, onward, OneOf, rules_asserted, told_needs, accepts, told_text, Recounts, EndsWith}
use Rattle.script_meaning.proofs.Needed.{refuses, all_refuse, first_refuses, append_refuse, said_refuse}
use Rattle.script_meaning.proofs.Playing.{blank_fresh}
use Rattle.script_meaning.proofs.Accepting.{accepted, told_one}

-- ---- exit

-- A script ends at `exit`, and at no other command.
exit_read : (r : Read Command) → exits r ≡ true → (e : ℕ) × (r ≡ Read.got Command.exit e)
exit_read (Read.got Command.set_logic e) is = absurd (false≢true is)
exit_read (Read.got Command.check_sat e) is = absurd (false≢true is)
exit_read (Read.got Command.exit e) is = (e, refl)
exit_read (Read.got (Command.declare w) e) is = absurd (false≢true is)
exit_read (Read.got (Command.assert t) e) is = absurd (false≢true is)
exit_read (Read.got (Command.push n) e) is = absurd (false≢true is)
exit_read (Read.got (Command.pop n) e) is = absurd (false≢true is)
exit_read (Read.got (Command.get_value ws) e) is = absurd (false≢true is)
exit_read (Read.stop w i) is = absurd (false≢true is)

other_read : (r : Read Command) → exits r ≡ false → (e : ℕ) → r ≡ Read.got Command.exit e → ⊥
other_read r stays e is = true≢false (sym (ap exits is) ∙ stays)

-- ---- the number

-- **A script ends with the number told from its text alone**, from every place on, after any sequence of commands.
pub ends_with : (s : List ℕ) (i : ℕ) (l : Lent) (k g w : ℕ) (out : List ℕ) → Plays s i l k g w out → (story : Story) → Recounts l story → (g ≡ SHORT → ⊥) → EndsWith s i story g
ends_with s i l k g w out (Plays.at_end _ _ _ over) story t some = EndsWith.at_end i story over
ends_with s i l k g w out (Plays.no_room _ _ _ more full) story t some = absurd (some refl)
ends_with s i l k g w out (Plays.refused _ _ _ _ more room unmet refuses) story t some =
    EndsWith.refused i story g more ((accepted l story t (rest s i) g).0 unmet) refuses
ends_with s i l k g w out (Plays.exited _ _ m _ v more room met does exit) story t some =
    let read = exit_read (read_at s i) exit in
    EndsWith.exited i story read.0 more ((accepted l story t (rest s i) DONE).0 met) read.1
ends_with s i l k g w out (Plays.goes_on _ _ m _ v _ _ _ more room met does stays then) story t some =
    let told = (accepted l story t (rest s i) DONE).0 met in
    EndsWith.goes_on i story g more told (other_read (read_at s i) stays)
    (ends_with s (after_command s i) m (k + v) g w out then (onward (read_at s i) story) (Recounts.carried_out l story t (rest s i) k v m told does) some)

-- **The text tells one number only**.
pub ends_same : (s : List ℕ) (i : ℕ) (k : Story) (g h : ℕ) → EndsWith s i k g → EndsWith s i k h → g ≡ h
ends_same s i k g h (EndsWith.at_end _ _ over) (EndsWith.at_end _ _ over') = refl
ends_same s i k g h (EndsWith.at_end _ _ over) (EndsWith.refused _ _ _ more f refuses) = absurd (more over)
ends_same s i k g h (EndsWith.at_end _ _ over) (EndsWith.exited _ _ e more f is) = refl
ends_same s i k g h (EndsWith.at_end _ _ over) (EndsWith.goes_on _ _ _ more f other then) = absurd (more over)
ends_same s i k g h (EndsWith.refused _ _ _ more f refuses) (EndsWith.at_end _ _ over) = absurd (more over)
ends_same s i k g h (EndsWith.refused _ _ _ more f refuses) (EndsWith.refused _ _ _ more' f' refuses') = told_one (rest s i) k g h f f'
ends_same s i k g h (EndsWith.refused _ _ _ more f refuses) (EndsWith.exited _ _ e more' f' is) = told_one (rest s i) k g DONE f f'
ends_same s i k g h (EndsWith.refused _ _ _ more f refuses) (EndsWith.goes_on _ _ _ more' f' other then) = absurd (refuses (told_one (rest s i) k g DONE f f'))
ends_same s i k g h (EndsWith.exited _ _ e more f is) (EndsWith.at_end _ _ over) = refl
ends_same s i k g h (EndsWith.exited _ _ e more f is) (EndsWith.refused _ _ _ more' f' refuses) = told_one (rest s i) k DONE h f f'
ends_same s i k g h (EndsWith.exited _ _ e more f is) (EndsWith.exited _ _ e' more' f' is') = refl
ends_same s i k g h (EndsWith.exited _ _ e more f is) (EndsWith.goes_on _ _ _ more' f' other then) = absurd (other e is)
ends_same s i k g h (EndsWith.goes_on _ _ _ more f other then) (EndsWith.at_end _ _ over) = absurd (more over)
ends_same s i k g h (EndsWith.goes_on _ _ _ more f other then) (EndsWith.refused _ _ _ more' f' refuses) = absurd (refuses (told_one (rest s i) k h DONE f' f))
ends_same s i k g h (EndsWith.goes_on _ _ _ more f other then) (EndsWith.exited _ _ e more' f' is) = absurd (other e is)
ends_same s i k g h (EndsWith.goes_on _ _ _ more f other then) (EndsWith.goes_on _ _ _ more' f' other' then') =
    ends_same s (after_command s i) (onward (read_at s i) k) g h then then'

-- So a script that ends otherwise than for want of room ends with no other number than the text tells.
pub ends_told :
    (s : List ℕ) (i : ℕ) (l : Lent) (k g h w : ℕ) (out : List ℕ) → Plays s i l k h w out → (story : Story) → Recounts l story → (h ≡ SHORT → ⊥) → EndsWith s i story g → g ≡ h
ends_told s i l k g h w out plays story t some told = ends_same s i story g h told (ends_with s i l k h w out plays story t some)

-- ---- never SHORT

told_refuse : (c : Command) (k : Story) → T (all_refuse (told_needs c k))
told_refuse Command.set_logic k = tt
told_refuse Command.check_sat k = tt
told_refuse Command.exit k = tt
told_refuse (Command.declare w) k = tt
told_refuse (Command.assert t) k =
    append_refuse (term_needs (OneOf k.names) (rules_of_term false t))
    (needs FULL (Satisfiable k.asserted → rules_asserted k.asserted + length (rules_of_term false t) ≤ RULES) ∷ [])
    (said_refuse (OneOf k.names) (Command.assert t)) tt
told_refuse (Command.push n) k = tt
told_refuse (Command.pop n) k = tt
told_refuse (Command.get_value ws) k = said_refuse (OneOf k.names) (Command.get_value ws)

accepts_refuse : (r : Read Command) (k : Story) → T (all_refuse (accepts r k))
accepts_refuse (Read.got c e) k = told_refuse c k
accepts_refuse (Read.stop Why.other i) k = tt
accepts_refuse (Read.stop Why.wrong i) k = tt
accepts_refuse (Read.stop Why.size i) k = tt

-- The text tells SHORT of no script.
pub ends_not_short : (s : List ℕ) (i : ℕ) (k : Story) (g : ℕ) → EndsWith s i k g → g ≡ SHORT → ⊥
ends_not_short s i k g (EndsWith.at_end _ _ over) is = omega (arith, is)
ends_not_short s i k g (EndsWith.refused _ _ _ more f some) is = tell (first_refuses (told_text (rest s i) k) g (accepts_refuse (read_at s i) k) f)
  where
    tell : (g ≡ DONE) ⊎ T (refuses g) → ⊥
    tell (inl done) = some done
    tell (inr such) = subst (λ (n : ℕ). T (refuses n)) is such
ends_not_short s i k g (EndsWith.exited _ _ e more f is_exit) is = omega (arith, is)
ends_not_short s i k g (EndsWith.goes_on _ _ _ more f other then) is = ends_not_short s (after_command s i) (onward (read_at s i) k) g then is

-- ---- the whole script

-- **A whole script** of at most TEXT bytes ends with exactly the number told from its text alone, where there is room for its answers.
module _ (s out : List ℕ) (g w : ℕ) (out' : List ℕ) (runs : RunsScript s out g w out') (fits : length s ≤ TEXT) (some : g ≡ SHORT → ⊥) where
  pub script_ends_with : EndsWith s 0 begun g
  script_ends_with = ends_with s 0 (blank out) 0 g w out' (runs.played fits) begun (Recounts.fresh (blank out) (blank_fresh out)) some

  pub script_ends_told : (h : ℕ) → EndsWith s 0 begun h → h ≡ g
  script_ends_told h told = ends_same s 0 begun h g told script_ends_with
