-- Two clerks, worked: what each is answered, whatever its promise allows, by the tests of the starred cases; and that both end with the same question.
use Prim.Native.Nat.{ℕ, zero, suc, ◌<◌}
use native.Mathlib.Omega.{arith}
use mathlib.Core.Path.{sym, ◌∙◌}
use mathlib.Core.List.{List, [], ◌∷◌, ◌++◌}
use lib.Dec.{T}
use lib.IntN.{ℤ, pos, neg_ℤ}
use Rattle.meaning.specs.Rules.{rule}
use Rattle.meaning.specs.Tables.{Tables, Room}
use Rattle.meaning.specs.Promise.{Given}
use Rattle.meaning.specs.Calls.{held_in}
use Rattle.meaning.specs.Runs.{Call, Made}
use Rattle.meaning.specs.Screen.{HeldToo, SameQuestion, SameScreen}
use Rattle.meaning.specs.Cases.{Row, Days, Done, Possible, Says}
use Rattle.meaning.proofs.Tests.{both}
use Rattle.meaning.proofs.Screens.{same_screen}
use Rattle.meaning.proofs.Starred.{Shown, Shows, next_shown, fresh_shown, row_test, rows_test, row_holds, fresh_holds, shown_held}

abbrev minus : ℕ → ℤ
minus n = neg_ℤ (pos n)

abbrev days : ℕ → ℕ → ℕ → ℕ → List ℕ
days a b c d = a ∷ b ∷ c ∷ d ∷ []

-- Clerk A adds two rules, the first of them twice.
abbrev pub clerk_a : List Row
clerk_a = Row.add (rule 0 1 (minus 2)) 1 (days 0 2 0 0) ∷ Row.add (rule 1 2 (minus 3)) 1 (days 0 2 5 0) ∷ Row.add (rule 0 1 (minus 2)) 0 (days 0 2 5 0) ∷ []

-- Clerk B marks, adds a rule, goes back, and adds the two in the other order.
abbrev pub clerk_b : List Row
clerk_b =
    Row.mark ∷ Row.add (rule 3 0 (minus 9)) 1 (days 9 0 0 0) ∷ Row.back 0 (days 0 0 0 0) ∷ Row.add (rule 1 2 (minus 3)) 1 (days 0 0 3 0) ∷ Row.add (rule 0 1 (minus 2)) 2 (days 0 2 5 0)
    ∷ []

-- Both watch three rules and ask for the split.
abbrev pub both_ask : List Row
both_ask = Row.watch (rule 0 2 (minus 5)) ∷ Row.watch (rule 2 0 (pos 4)) ∷ Row.watch (rule 0 3 (pos 7)) ∷ Row.split (0 ∷ []) (1 ∷ []) ∷ []

-- Both add one rule more, and ask again: no number is gone, and one has come.
abbrev pub both_add : List Row
both_add = Row.add (rule 0 3 (minus 4)) 1 (days 0 2 5 4) ∷ Row.split (0 ∷ 2 ∷ []) (1 ∷ []) ∷ []

-- What rows claim of tables t, where X is what is claimed of the tables that the last leaves.
abbrev pub Then : Tables → List Row → (Tables → Type 0) → Type 0
Then t [] X = X t
Then t (row ∷ rows) X = Says row t (λ u. Then u rows X)

-- Open with four steps on any tables with room, then the rows, then X.
abbrev pub FromOpen : Tables → List Row → (Tables → Type 0) → Type 0
FromOpen s rows X = ((g : Given) (t : Tables) → Made (Call.opens 4) s g t → Done 0 0 g × Days t (days 0 0 0 0) × Then t rows X) × Possible (Call.opens 4) s

abbrev shown_after : Shown → List Row → Shown
shown_after m [] = m
shown_after m (row ∷ rows) = shown_after (next_shown m row) rows

rows_then : (rows : List Row) (m : Shown) → T (rows_test m rows) → (t : Tables) → Shows t m → (X : Tables → Type 0) → ((u : Tables) → Shows u (shown_after m rows) → X u) → Then t rows X
rows_then [] m passed t w X go = go t w
rows_then (row ∷ rows) m passed t w X go =
    let (here, later) = both (row_test m row) (rows_test (next_shown m row) rows) passed in
    row_holds row m here t w (λ u. Then u rows X) (λ u v. rows_then rows (next_shown m row) later u v X go)

abbrev begun : Shown
begun = fresh_shown (days 0 0 0 0)

-- Tables that show what A has put in and tables that show what B has put in: the same question.
module _ (t u : Tables) (a : Shows t (shown_after begun (clerk_a ++ both_ask))) (b : Shows u (shown_after begun (clerk_b ++ both_ask))) where
  -- A number that A holds, and one that B holds, with its rule.
  a_holds : (i : ℕ) → i < 3 → held_in t i
  a_holds zero below = shown_held t (shown_after begun (clerk_a ++ both_ask)) a 0 (omega arith)
  a_holds (suc zero) below = shown_held t (shown_after begun (clerk_a ++ both_ask)) a 1 (omega arith)
  a_holds (suc (suc zero)) below = shown_held t (shown_after begun (clerk_a ++ both_ask)) a 2 (omega arith)
  a_holds (suc (suc (suc i))) below = absurd (omega arith)

  b_holds : (i : ℕ) → i < 2 → held_in u i
  b_holds zero below = shown_held u (shown_after begun (clerk_b ++ both_ask)) b 0 (omega arith)
  b_holds (suc zero) below = shown_held u (shown_after begun (clerk_b ++ both_ask)) b 1 (omega arith)
  b_holds (suc (suc i)) below = absurd (omega arith)

  in_b : HeldToo t u
  in_b zero held = (1, (b_holds 1 (omega arith), b.each_rule 1 (b_holds 1 (omega arith)) ∙ sym (a.each_rule 0 held)))
  in_b (suc zero) held = (0, (b_holds 0 (omega arith), b.each_rule 0 (b_holds 0 (omega arith)) ∙ sym (a.each_rule 1 held)))
  in_b (suc (suc zero)) held = (1, (b_holds 1 (omega arith), b.each_rule 1 (b_holds 1 (omega arith)) ∙ sym (a.each_rule 2 held)))
  in_b (suc (suc (suc i))) held = absurd (omega (arith, held.1, a.each_level (suc (suc (suc i))) held.0))

  in_a : HeldToo u t
  in_a zero held = (1, (a_holds 1 (omega arith), a.each_rule 1 (a_holds 1 (omega arith)) ∙ sym (b.each_rule 0 held)))
  in_a (suc zero) held = (0, (a_holds 0 (omega arith), a.each_rule 0 (a_holds 0 (omega arith)) ∙ sym (b.each_rule 1 held)))
  in_a (suc (suc i)) held = absurd (omega (arith, held.1, b.each_level (suc (suc i)) held.0))

  question : SameQuestion t u
  question = record {
    same_steps = a.steps ∙ sym b.steps;
    same_rules = record { there = in_b; back = in_a };
    as_many_watched = a.watched ∙ sym b.watched;
    each_watched = λ j below. a.each_watched j below ∙ sym (b.each_watched j (omega (arith, a.watched, b.watched)));
  }

-- What is claimed once both have asked: the same question, the same screen, and of each what it is answered when it adds the one rule more.
abbrev pub Agree : Tables → Tables → Type 0
Agree t u = SameQuestion t u × SameScreen t u × Then t both_add (λ v. Unit {0}) × Then u both_add (λ v. Unit {0})

-- **The two clerks**: whatever the calls of A and then those of B answer is as their rows say, and then they agree.
pub clerks_agree : (s s' : Tables) → Room s → Room s' → FromOpen s (clerk_a ++ both_ask) (λ t. FromOpen s' (clerk_b ++ both_ask) (Agree t))
clerks_agree s s' room room' = go s room (clerk_a ++ both_ask) tt _ (λ t a. go s' room' (clerk_b ++ both_ask) tt (Agree t) (agree t a))
  where
    go : (s : Tables) → Room s → (rows : List Row) → T (rows_test begun rows) → (X : Tables → Type 0) → ((t : Tables) → Shows t (shown_after begun rows) → X t) → FromOpen s rows X
    go s room rows passed X then = fresh_holds (days 0 0 0 0) tt s room (λ v. Then v rows X) (λ v w. rows_then rows begun passed v w X then)

    more : (rows : List Row) → T (rows_test (shown_after begun rows) both_add) → (t : Tables) → Shows t (shown_after begun rows) → Then t both_add (λ v. Unit {0})
    more rows passed t w = rows_then both_add (shown_after begun rows) passed t w (λ v. Unit {0}) (λ v x. tt)

    agree : (t : Tables) → Shows t (shown_after begun (clerk_a ++ both_ask)) → (u : Tables) → Shows u (shown_after begun (clerk_b ++ both_ask)) → Agree t u
    agree t a u b =
        (question t u a b, same_screen a.kept b.kept (question t u a b), more (clerk_a ++ both_ask) tt t a, more (clerk_b ++ both_ask) tt u b)
