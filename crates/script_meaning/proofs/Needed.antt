-- The needs of a command: of the rules of a term and of the names asked for all are met exactly when each rule, each name, has its own; of two lists of needs the first need
-- not met is that of the first list, or that of the second where all of the first is met; and no need has the number DONE, SHORT, DAMAGED or CONFLICT.
use Prim.Native.Nat.{ℕ}
use native.Mathlib.Omega.{arith}
use mathlib.Core.Path.{◌≡◌, refl, sym, ◌∙◌, subst}
use mathlib.Core.Bool.{Bool, true, false, not, ◌&&◌}
use mathlib.Core.List.{List, [], ◌∷◌, ◌++◌}
use mathlib.Core.Logic.{◌⊎◌, inl, inr}
use lib.Dec.{T, eqb}
use Rattle.meaning.specs.Bounds.{DONE, SHORT, DAMAGED, CONFLICT, NAME, AMOUNT}
use Rattle.meaning.specs.Rules.{InAmount}
use Rattle.meaning.specs.Promise.{Need, needs, First}
use Rattle.reading.specs.Tree.{Piece, Named, rules_of_term, Command}
use Rattle.reading.specs.Saying.{term_needs, name_needs, said_needs}
use Rattle.script_meaning.specs.Record.{Lent, Known}
use Rattle.script_meaning.specs.Commands.{mode_needs, room_needs, command_needs}

-- ---- numbers

-- The number is none of DONE, SHORT, DAMAGED and CONFLICT; that of every need.
abbrev pub refuses : ℕ → Bool
refuses k = not (eqb k DONE) && (not (eqb k SHORT) && (not (eqb k DAMAGED) && not (eqb k CONFLICT)))

abbrev pub all_refuse : List Need → Bool
all_refuse [] = true
all_refuse (n ∷ l) = refuses n.number && all_refuse l

both_true : (a b : Bool) → T (a && b) → T a × T b
both_true true b h = (tt, h)
both_true false b h = absurd h

true_both : (a b : Bool) → T a → T b → T (a && b)
true_both true b h k = k
true_both false b h k = absurd h

pub append_refuse : (a b : List Need) → T (all_refuse a) → T (all_refuse b) → T (all_refuse (a ++ b))
append_refuse [] b h k = k
append_refuse (n ∷ a) b h k =
    let here = both_true (refuses n.number) (all_refuse a) h in
    true_both (refuses n.number) (all_refuse (a ++ b)) here.0 (append_refuse a b here.1 k)

-- The number that is given is such a number, or DONE.
pub first_refuses : (l : List Need) (g : ℕ) → T (all_refuse l) → First l g → (g ≡ DONE) ⊎ T (refuses g)
first_refuses [] g h f = inl f
first_refuses (n ∷ l) g h (inl (is, unmet)) = inr (subst (λ (k : ℕ). T (refuses k)) (sym is) (both_true (refuses n.number) (all_refuse l) h).0)
first_refuses (n ∷ l) g h (inr (met, f)) = first_refuses l g (both_true (refuses n.number) (all_refuse l) h).1 f

-- ---- one need and those behind it, one list and another behind it

-- A need whose number is not DONE is met where DONE is given, and so are those behind it.
pub done_first : (k : ℕ) (P : Type 0) (l : List Need) → (k ≡ DONE → ⊥) → First (needs k P ∷ l) DONE → P × First l DONE
done_first k P l d (inl refused) = absurd (d (sym refused.0))
done_first k P l d (inr met) = met

-- The last of the needs.
pub last_met : (k : ℕ) (P : Type 0) → (k ≡ DONE → ⊥) → First (needs k P ∷ []) DONE → P
last_met k P other met = (done_first k P [] other met).0

-- Of a ++ b the first need not met is that of a, or that of b where all of a is met.
module _ (b : List Need) (g : ℕ) where
  pub first_split : (a : List Need) → T (all_refuse a) → First (a ++ b) g → (First a g × (g ≡ DONE → ⊥)) ⊎ (First a DONE × First b g)
  first_split [] h f = inr (refl, f)
  first_split (n ∷ a) h (inl (is, unmet)) = inl (inl (is, unmet), λ e. subst (λ (k : ℕ). T (refuses k)) (sym is ∙ e) (both_true (refuses n.number) (all_refuse a) h).0)
  first_split (n ∷ a) h (inr (met, f)) = on (first_split a (both_true (refuses n.number) (all_refuse a) h).1 f)
    where
      on : (First a g × (g ≡ DONE → ⊥)) ⊎ (First a DONE × First b g) → (First (n ∷ a) g × (g ≡ DONE → ⊥)) ⊎ (First (n ∷ a) DONE × First b g)
      on (inl (first, some)) = inl (inr (met, first), some)
      on (inr (done, first)) = inr (inr (met, done), first)

  -- And back; the other half is `first_stops` of Rattle.meaning.
  pub first_past : (a : List Need) → T (all_refuse a) → First a DONE → First b g → First (a ++ b) g
  first_past [] h done f = f
  first_past (n ∷ a) h (inl (is, unmet)) f = absurd (subst (λ (k : ℕ). T (refuses k)) (sym is) (both_true (refuses n.number) (all_refuse a) h).0)
  first_past (n ∷ a) h (inr (met, done)) f = inr (met, first_past a (both_true (refuses n.number) (all_refuse a) h).1 done f)

-- All of a ++ b is met exactly when all of a and all of b is.
pub done_split : (a b : List Need) → T (all_refuse a) → First (a ++ b) DONE → First a DONE × First b DONE
done_split a b h f = tell (first_split b DONE a h f)
  where
    tell : (First a DONE × (DONE ≡ DONE → ⊥)) ⊎ (First a DONE × First b DONE) → First a DONE × First b DONE
    tell (inl (first, some)) = absurd (some refl)
    tell (inr both) = both

-- ---- rules and names

-- Every need of the rule is met.
pub record RuleMet (K : List ℕ → Type 0) (r : Named) : Type 0 where
  pub first_known : K r.first
  pub second_known : K r.second
  pub amount_in : InAmount r.amount

abbrev pub EachRule : (List ℕ → Type 0) → List Named → Type 0
EachRule K [] = Unit {0}
EachRule K (r ∷ rs) = RuleMet K r × EachRule K rs

abbrev pub EachName : (List ℕ → Type 0) → List Piece → Type 0
EachName K [] = Unit {0}
EachName K (w ∷ ws) = K w.letters × EachName K ws

module _ (K : List ℕ → Type 0) where
  pub rules_met : (rs : List Named) → First (term_needs K rs) DONE → EachRule K rs
  rules_met [] h = tt
  rules_met (r ∷ rs) h =
      let first = done_first NAME (K r.first) (needs NAME (K r.second) ∷ needs AMOUNT (InAmount r.amount) ∷ term_needs K rs) (λ e. omega arith) h in
      let second = done_first NAME (K r.second) (needs AMOUNT (InAmount r.amount) ∷ term_needs K rs) (λ e. omega arith) first.1 in
      let amount = done_first AMOUNT (InAmount r.amount) (term_needs K rs) (λ e. omega arith) second.1 in
      (record { first_known = first.0; second_known = second.0; amount_in = amount.0 }, rules_met rs amount.1)

  pub rules_passed : (rs : List Named) → EachRule K rs → First (term_needs K rs) DONE
  rules_passed [] each = refl
  rules_passed (r ∷ rs) each = inr (each.0.first_known, inr (each.0.second_known, inr (each.0.amount_in, rules_passed rs each.1)))

  pub names_met : (ws : List Piece) → First (name_needs K ws) DONE → EachName K ws
  names_met [] h = tt
  names_met (w ∷ ws) h =
      let here = done_first NAME (K w.letters) (name_needs K ws) (λ e. omega arith) h in
      (here.0, names_met ws here.1)

  pub names_passed : (ws : List Piece) → EachName K ws → First (name_needs K ws) DONE
  names_passed [] each = refl
  names_passed (w ∷ ws) each = inr (each.0, names_passed ws each.1)

  rules_refuse : (rs : List Named) → T (all_refuse (term_needs K rs))
  rules_refuse [] = tt
  rules_refuse (r ∷ rs) = rules_refuse rs

  names_refuse : (ws : List Piece) → T (all_refuse (name_needs K ws))
  names_refuse [] = tt
  names_refuse (w ∷ ws) = names_refuse ws

  pub said_refuse : (c : Command) → T (all_refuse (said_needs K c))
  said_refuse Command.set_logic = tt
  said_refuse Command.check_sat = tt
  said_refuse Command.exit = tt
  said_refuse (Command.declare w) = tt
  said_refuse (Command.assert t) = rules_refuse (rules_of_term false t)
  said_refuse (Command.push n) = tt
  said_refuse (Command.pop n) = tt
  said_refuse (Command.get_value ws) = names_refuse ws

-- ---- commands

pub mode_refuse : (c : Command) (l : Lent) → T (all_refuse (mode_needs c l))
mode_refuse Command.set_logic l = tt
mode_refuse Command.check_sat l = tt
mode_refuse Command.exit l = tt
mode_refuse (Command.declare w) l = tt
mode_refuse (Command.assert t) l = tt
mode_refuse (Command.push n) l = tt
mode_refuse (Command.pop n) l = tt
mode_refuse (Command.get_value ws) l = tt

pub room_refuse : (c : Command) (l : Lent) → T (all_refuse (room_needs c l))
room_refuse Command.set_logic l = tt
room_refuse Command.check_sat l = tt
room_refuse Command.exit l = tt
room_refuse (Command.declare w) l = tt
room_refuse (Command.assert t) l = tt
room_refuse (Command.push n) l = tt
room_refuse (Command.pop n) l = tt
room_refuse (Command.get_value ws) l = tt

pub command_refuse : (c : Command) (l : Lent) → T (all_refuse (command_needs c l))
command_refuse c l =
    append_refuse (mode_needs c l) (said_needs (Known l) c ++ room_needs c l) (mode_refuse c l)
    (append_refuse (said_needs (Known l) c) (room_needs c l) (said_refuse (Known l) c) (room_refuse c l))

-- All that a command needs is met: where it may stand, what it says, and the places it takes; and from these.
pub command_met : (c : Command) (l : Lent) → First (command_needs c l) DONE → First (mode_needs c l) DONE × (First (said_needs (Known l) c) DONE × First (room_needs c l) DONE)
command_met c l met =
    let mode = done_split (mode_needs c l) (said_needs (Known l) c ++ room_needs c l) (mode_refuse c l) met in
    (mode.0, done_split (said_needs (Known l) c) (room_needs c l) (said_refuse (Known l) c) mode.1)

pub command_passed :
    (c : Command) (l : Lent) (g : ℕ) → First (mode_needs c l) DONE → First (said_needs (Known l) c) DONE → First (room_needs c l) g → First (command_needs c l) g
command_passed c l g mode said room =
    first_past (said_needs (Known l) c ++ room_needs c l) g (mode_needs c l) (mode_refuse c l) mode
    (first_past (room_needs c l) g (said_needs (Known l) c) (said_refuse (Known l) c) said room)
