-- **After any sequence of commands a text is refused with exactly the number told from the texts alone**, and the number can be told and is one only.
use Prim.Native.Nat.{ℕ, ◌+◌, ◌≤◌}
use native.Mathlib.Omega.{arith}
use mathlib.Core.Path.{◌≡◌, refl, sym, ◌∙◌, ap, subst}
use mathlib.Core.Bool.{Bool, true, false}
use mathlib.Core.List.{List, [], ◌∷◌, ◌++◌}
use mathlib.Core.Logic.Iff
use mathlib.Core.Logic.{inl, inr, ◌↔◌}
use lib.ListN.{length}
use Rattle.meaning.specs.Bounds.{RULES, DONE}
use Rattle.meaning.specs.Promise.{Need, First}
use Rattle.meaning.proofs.Needs.{first_same}
use Rattle.meaning.proofs.Sequences.{call_keeps}
use Rattle.reading.specs.Tree.{Piece, Named, Term, rules_of_term, Command}
use Rattle.reading.specs.Reading.{Why, Read, reading}
use Rattle.reading.specs.Saying.{term_needs, name_needs}
use Rattle.script_meaning.specs.Record.{Lent}
use Rattle.script_meaning.specs.Commands.{command_needs, read_needs, text_needs}
use Rattle.script_meaning.specs.Traces.{History, Satisfiable, follows, Traced}
use Rattle.script_meaning.specs.Accepted.{Story, begun, onward, rules_asserted, told_needs, accepts, told_text, Recounts}
use Rattle.script_meaning.proofs.Granted.{Places}
use Rattle.script_meaning.proofs.Keeping.{tables_kept}
use Rattle.script_meaning.proofs.Decided.{first_told, text_told}
use Rattle.script_meaning.proofs.Quieting.{quietly, quiet_in_force}
use Rattle.script_meaning.proofs.Planning.{clean_if, satisfiable_if}
use Rattle.script_meaning.proofs.Counting.{all_counted, Links, told_asserted, fresh_links, bytes_links, command_links, quiet_links}

-- ---- the same needs in other words

-- The needs have the same numbers, one after the other, and each of the one list is met exactly when that of the other is.
abbrev SameNeeds : List Need → List Need → Type 0
SameNeeds [] [] = Unit {0}
SameNeeds [] (n ∷ b) = ⊥
SameNeeds (n ∷ a) [] = ⊥
SameNeeds (n ∷ a) (m ∷ b) = (n.number ≡ m.number) × ((n.met ↔ m.met) × SameNeeds a b)

-- Then they have the same first need that is not met.
same_first : (a b : List Need) (g : ℕ) → SameNeeds a b → First a g → First b g
same_first [] [] g same f = f
same_first [] (n ∷ b) g same f = absurd same
same_first (n ∷ a) [] g same f = absurd same
same_first (n ∷ a) (m ∷ b) g (number, (met, same)) (inl (is, unmet)) = inl (is ∙ number, λ there. unmet (met.1 there))
same_first (n ∷ a) (m ∷ b) g (number, (met, same)) (inr (here, f)) = inr (met.0 here, same_first a b g same f)

same_back : (a b : List Need) → SameNeeds a b → SameNeeds b a
same_back [] [] same = tt
same_back [] (n ∷ b) same = absurd same
same_back (n ∷ a) [] same = absurd same
same_back (n ∷ a) (m ∷ b) (number, (met, same)) = (sym number, ((met.1, met.0), same_back a b same))

same_needs_first : (a b : List Need) → SameNeeds a b → (g : ℕ) → First a g ↔ First b g
same_needs_first a b same g = (same_first a b g same, same_first b a g (same_back a b same))

-- The rules of a term and the names asked for, where the same names are declared.
module _ (K L : List ℕ → Type 0) (known : (w : List ℕ) → K w ↔ L w) where
  same_rules : (rs : List Named) (a b : List Need) → SameNeeds a b → SameNeeds (term_needs K rs ++ a) (term_needs L rs ++ b)
  same_rules [] a b same = same
  same_rules (r ∷ rs) a b same = (refl, (known r.first, (refl, (known r.second, (refl, (Iff.rfl, same_rules rs a b same))))))

  same_names : (ws : List Piece) → SameNeeds (name_needs K ws ++ []) (name_needs L ws)
  same_names [] = tt
  same_names (w ∷ ws) = (refl, (known w.letters, same_names ws))

-- ---- a text

module _ (l : Lent) (k : Story) (i : Links l k) where
  -- What is asserted is satisfiable exactly when no level counts as contradictory.
  clean_told : (l.notes.broken ≡ 0) ↔ Satisfiable k.asserted
  clean_told = (satisfiable_if l k.asserted i.in_force, clean_if l k.asserted i.in_force)

  -- The logic is told.
  logic_told : (b : Bool) → (l.notes.logic ≡ b) ↔ (k.logic ≡ b)
  logic_told b = ((λ e. sym i.noted.same_logic ∙ e), (λ e. i.noted.same_logic ∙ e))

  -- So is whether a question printed `sat` last.
  sat_told : (l.notes.sat ≡ true) ↔ ((k.asked ≡ true) × Satisfiable k.asserted)
  sat_told = (
    (λ sat. let both = i.noted.same_sat.0 sat in (both.0, clean_told.0 both.1)),
    (λ told. i.noted.same_sat.1 (told.0, clean_told.1 told.1)),
  )

  -- And whether a term's rules have their places.
  places_told : (t : Term) → Places t l ↔ (Satisfiable k.asserted → rules_asserted k.asserted + length (rules_of_term false t) ≤ RULES)
  places_told t = (
    (λ places sat. let clean = clean_told.1 sat in omega (arith, places clean, counted clean)),
    (λ told clean. omega (arith, told (clean_told.0 clean), counted clean)),
  )
    where
      counted : l.notes.broken ≡ 0 → l.tables.counts.rules ≡ rules_asserted k.asserted
      counted = all_counted l k.asserted i.in_force.fine i.counted

  -- Every command needs what is told.
  command_same : (c : Command) → SameNeeds (command_needs c l) (told_needs c k)
  command_same Command.set_logic = (refl, (logic_told false, tt))
  command_same Command.check_sat = (refl, (logic_told true, tt))
  command_same Command.exit = tt
  command_same (Command.declare w) =
      let known = i.noted.same_names w.letters in
      let names = i.noted.as_many_names in
      (refl, (logic_told true, (refl, (((λ new one. new (known.1 one)), (λ new there. new (known.0 there))), (refl, (((λ few. omega (arith, few, names)), (λ few. omega (arith, few, names))), tt))))))
  command_same (Command.assert t) =
      (refl, (logic_told true, same_rules _ _ i.noted.same_names (rules_of_term false t) _ _ (refl, (places_told t, tt))))
  command_same (Command.push n) =
      let levels = i.in_force.as_many in
      (refl, (logic_told true, (refl, (((λ few. omega (arith, few, levels)), (λ few. omega (arith, few, levels))), tt))))
  command_same (Command.pop n) =
      let levels = i.in_force.as_many in
      (refl, (logic_told true, (refl, (((λ few. omega (arith, few, levels)), (λ few. omega (arith, few, levels))), tt))))
  command_same (Command.get_value ws) = (refl, (logic_told true, (refl, (sat_told, same_names _ _ i.noted.same_names ws))))

  read_same : (r : Read Command) → SameNeeds (read_needs r l) (accepts r k)
  read_same (Read.got c e) = command_same c
  read_same (Read.stop Why.other j) = tt
  read_same (Read.stop Why.wrong j) = (refl, (Iff.rfl, tt))
  read_same (Read.stop Why.size j) = (refl, (Iff.rfl, tt))

  links_accepted : (text : List ℕ) (g : ℕ) → First (text_needs text l) g ↔ First (told_text text k) g
  links_accepted text = same_needs_first (text_needs text l) (told_text text k) (refl, (Iff.rfl, read_same (reading text)))

-- ---- whole sequences

-- After any sequence of commands the link holds.
pub recounts_links : (l : Lent) (k : Story) → Recounts l k → Links l k
recounts_links l k (Recounts.fresh _ f) = fresh_links l f
recounts_links m j (Recounts.carried_out l k t text i w _ told does) =
    let links = recounts_links l k t in
    command_links text i w l m k links ((links_accepted l k links text DONE).1 told) does
recounts_links m k (Recounts.quiet_call l _ t c g u made quiet) =
    let links = recounts_links l k t in
    let quietly-so = quietly c l.tables u g made quiet in
    quiet_links l k u links (quiet_in_force l k.asserted u links.in_force (call_keeps c l.tables u g made (tables_kept links.in_force.fine)) quietly-so) quietly-so
recounts_links m k (Recounts.other_bytes l _ t out) = bytes_links l k out (recounts_links l k t)

-- **After any sequence of commands a text is refused with exactly the number told from the texts alone**: it is carried out exactly when they tell DONE.
pub accepted : (l : Lent) (k : Story) → Recounts l k → (text : List ℕ) (g : ℕ) → First (text_needs text l) g ↔ First (told_text text k) g
accepted l k t = links_accepted l k (recounts_links l k t)

-- **The number can be told**, for every text, and it is one only.
pub told : (l : Lent) (k : Story) → Recounts l k → (text : List ℕ) → (g : ℕ) × First (told_text text k) g
told l k t text = let first = first_told (text_needs text l) (text_told text l) in (first.0, (accepted l k t text first.0).0 first.1)

pub told_one : (text : List ℕ) (k : Story) (g h : ℕ) → First (told_text text k) g → First (told_text text k) h → g ≡ h
told_one text k = first_same (told_text text k)

-- **The two kinds of sequences are the same**: what is told of the texts tells what is asserted; and of every sequence of commands there is what is told.
pub recounts_traced : (l : Lent) (k : Story) → Recounts l k → Traced l k.asserted
recounts_traced l k (Recounts.fresh _ f) = Traced.fresh l f
recounts_traced m j (Recounts.carried_out l k t text i w _ told-done does) =
    subst (Traced m) (sym (told_asserted (reading text) k))
    (Traced.carried_out l k.asserted (recounts_traced l k t) text i w m ((accepted l k t text DONE).1 told-done) does)
recounts_traced m k (Recounts.quiet_call l _ t c g u made quiet) = Traced.quiet_call l k.asserted (recounts_traced l k t) c g u made quiet
recounts_traced m k (Recounts.other_bytes l _ t out) = Traced.other_bytes l k.asserted (recounts_traced l k t) out

pub traced_recounts : (l : Lent) (h : History) → Traced l h → (k : Story) × (Recounts l k × (k.asserted ≡ h))
traced_recounts l h (Traced.fresh _ f) = (begun, (Recounts.fresh l f, refl))
traced_recounts m j (Traced.carried_out l h t text i w _ met does) =
    let (k, (recounts, is)) = traced_recounts l h t in
    (onward (reading text) k, (Recounts.carried_out l k recounts text i w m ((accepted l k recounts text DONE).0 met) does, told_asserted (reading text) k ∙ ap (follows (reading text)) is))
traced_recounts m h (Traced.quiet_call l _ t c g u made quiet) =
    let (k, (recounts, is)) = traced_recounts l h t in
    (k, (Recounts.quiet_call l k recounts c g u made quiet, is))
traced_recounts m h (Traced.other_bytes l _ t out) =
    let (k, (recounts, is)) = traced_recounts l h t in
    (k, (Recounts.other_bytes l k recounts out, is))
