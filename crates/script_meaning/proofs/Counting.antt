-- The link between what is lent and what is told by the texts carried out: the logic, the names, the question asked last, what is asserted, and how many rules are held of each clear level and those
-- below it; every text that is carried out keeps it, and so do quiet calls and other bytes for the answers.
use Prim.Native.Nat.{ℕ, zero, suc, ◌+◌, ◌-◌, ◌≤◌, ◌<◌}
use native.Mathlib.Omega.{arith}
use native.Mathlib.Decide.{ℕ_discrete, dec_lt}
use native.Mathlib.Numerals.{add-one}
use mathlib.Core.Path.{◌≡◌, refl, sym, ◌∙◌, ap, subst}
use mathlib.Core.Bool.{Bool, true, false, false≢true}
use mathlib.Core.List.{List, [], ◌∷◌, map}
use mathlib.Core.Logic.Iff
use mathlib.Core.Logic.{◌⊎◌, inl, inr, ⊎_map, ◌↔◌}
use lib.ListN.{length, drop}
use borrow.Author.Tests.{eq-eqb, eqb-true}
use Rattle.meaning.specs.Bounds.{STEPS, RULES, NAME_BYTES, DONE}
use Rattle.meaning.specs.Rules.{Rule}
use Rattle.meaning.specs.Tables.{Tables, Sound, at, taken, freed_above}
use Rattle.meaning.specs.Promise.{First}
use Rattle.meaning.proofs.Places.{taken_of_none, taken_free, taken_held, free_or_held, down_to_held, taken_all_free, freed_stays}
use Rattle.names.specs.Names.{name_at}
use Rattle.names.proofs.Shelves.{name_new, name_old}
use Rattle.levels.specs.Levels.{with_marks, Popped, held_to}
use Rattle.levels.proofs.Laws.{freed_above_open}
use Rattle.reading.specs.Tree.{said_by, Term, rules_of_term, Command}
use Rattle.reading.specs.Reading.{Why, Read, reading}
use Rattle.reading.specs.Saying.{resolved}
use Rattle.script_meaning.specs.Record.{Lent, Known, step_of}
use Rattle.script_meaning.specs.Effect.{AddsAll, Changes, Does, with_name, with_tables, broken_after, broken_left}
use Rattle.script_meaning.specs.Commands.{read_needs, text_needs}
use Rattle.script_meaning.specs.Whole.{Fresh}
use Rattle.script_meaning.specs.Mixed.{on_tables}
use Rattle.script_meaning.specs.Traces.{History, nothing_asserted, with_term, with_levels, follows, with_out}
use Rattle.script_meaning.specs.Accepted.{Story, begun, with_asserted, onward, OneOf, rules_asserted}
use Rattle.script_meaning.proofs.Seeking.{known_name, numbered_known}
use Rattle.script_meaning.proofs.Granted.{declare_met, assert_met, pop_met, text_met}
use Rattle.script_meaning.proofs.Readings.{declared_in_form}
use Rattle.script_meaning.proofs.Adding.{Grown, one_more, adds_kept}
use Rattle.script_meaning.proofs.Keeping.{Fine, NamesInForm, shelved_of, tables_kept, rules_in, map_length}
use Rattle.script_meaning.proofs.InForce.{InForce, Clear, fresh_in_force, older_same, older_there, older_here}
use Rattle.script_meaning.proofs.Stacking.{newest_off, all_off, drop_drop, left_of, left_clear, left_there, left_here}
use Rattle.script_meaning.proofs.Commanding.{bytes_in_force, command_in_force}
use Rattle.script_meaning.proofs.Quieting.{Quietly}

-- ---- the rules held, counted

-- How many rules are held of level j and those below it.
abbrev pub rules_to : ℕ → Tables → ℕ
rules_to j t = taken RULES (freed_above RULES j t.levels)

-- The count reads only which places are held.
taken_there : (n : ℕ) (a b : List ℕ) → ((i : ℕ) → i < n → 0 < at a i → 0 < at b i) → ((i : ℕ) → i < n → 0 < at b i → 0 < at a i) → taken n a ≡ taken n b
taken_there zero a b to from = taken_of_none a ∙ sym (taken_of_none b)
taken_there (suc n) a b to from = tell (free_or_held a n) (free_or_held b n) (taken_there n a b (λ i h. to i (omega arith)) (λ i h. from i (omega arith)))
  where
    tell : (at a n ≡ 0) ⊎ (0 < at a n) → (at b n ≡ 0) ⊎ (0 < at b n) → taken n a ≡ taken n b → taken (suc n) a ≡ taken (suc n) b
    tell (inl e) (inl f) before = subst (λ (k : ℕ). taken k a ≡ taken k b) (add-one n) (taken_free n a e ∙ before ∙ sym (taken_free n b f))
    tell (inl e) (inr f) before = absurd (omega (arith, e, from n (omega arith) f))
    tell (inr e) (inl f) before = absurd (omega (arith, f, to n (omega arith) e))
    tell (inr e) (inr f) before = subst (λ (k : ℕ). taken k a ≡ taken k b) (add-one n) (taken_held n a e ∙ ap (λ (k : ℕ). k + 1) before ∙ sym (taken_held n b f))

-- So where the same places are held of level j and those below it, there are as many.
to_same : (j : ℕ) (t u : Tables) → ((i : ℕ) → held_to j t.levels i → held_to j u.levels i) → ((i : ℕ) → held_to j u.levels i → held_to j t.levels i) → rules_to j t ≡ rules_to j u
to_same j t u to from =
    taken_there RULES (freed_above RULES j t.levels) (freed_above RULES j u.levels)
    (λ i below some. ((down_to_held j u i).1 (to i ((down_to_held j t i).0 (below, some)))).1)
    (λ i below some. ((down_to_held j t i).1 (from i ((down_to_held j u i).0 (below, some)))).1)

-- At the newest level, and above it, these are all rules held.
pub to_all : (j : ℕ) (t : Tables) → Sound t → t.counts.marks ≤ j → rules_to j t ≡ t.counts.rules
to_all j t sound newest = ap (λ (levels : List ℕ). taken RULES levels) (freed_above_open j sound newest) ∙ sym sound.rules_counted

-- Where all rules of a list fit, there are as many more.
adds_counted : (l : List Rule) (t u : Tables) → AddsAll l t false u → u.counts.rules ≡ t.counts.rules + length l
adds_counted [] t u (is, fine) = omega (arith, ap (λ (v : Tables). v.counts.rules) is)
adds_counted (r ∷ l) t u (inl (unfit, (is, clash))) = absurd (false≢true clash)
adds_counted (r ∷ l) t u (inr (v, (h, rest))) = omega (arith, adds_counted l v u rest, one_more r t v h)

-- The rules of the asserted terms, with a term more, with empty levels more.
asserted_term : (t : Term) (h : History) → rules_asserted (with_term t h) ≡ rules_asserted h + length (rules_of_term false t)
asserted_term t [] = omega arith
asserted_term t (l ∷ h) = omega arith

asserted_levels : (n : ℕ) (h : History) → rules_asserted (with_levels n h) ≡ rules_asserted h
asserted_levels zero h = refl
asserted_levels (suc n) h = omega (arith, asserted_levels n h)

-- The rules held of a clear level and those below it are as many as the terms of these levels have.
abbrev pub AsMany : Lent → History → Type 0
AsMany l h = (n j : ℕ) → n + j ≡ l.tables.counts.marks → Clear l.notes.broken j → rules_to j l.tables ≡ rules_asserted (drop n h)

-- Where no level counts as contradictory, all rules held are as many as the asserted terms have.
pub all_counted : (l : Lent) (h : History) → Fine l → AsMany l h → l.notes.broken ≡ 0 → l.tables.counts.rules ≡ rules_asserted h
all_counted l h f c clean =
    let newest = l.tables.counts.marks in
    sym (to_all newest l.tables f.sound.tables_sound (omega arith)) ∙ c 0 newest (omega arith) (λ some. absurd (some clean))

fresh_counted : (l : Lent) → Fresh l → AsMany l nothing_asserted
fresh_counted l f zero j levels clear =
    taken_all_free RULES (freed_above RULES j l.tables.levels)
    (λ i below. freed_stays RULES j l.tables.levels i (omega (arith, f.all_free i below)) ∙ f.all_free i below)
fresh_counted l f (suc n) j levels clear = absurd (omega (arith, levels, ap (λ c. c.marks) f.counts_are))

-- An assertion: under a contradictory level nothing is added, and the newest level is not clear.
broken_counted : (t : Term) (l : Lent) (h : History) → Fine l → AsMany l h → (l.notes.broken ≡ 0 → ⊥) → AsMany l (with_term t h)
broken_counted t l h f c some zero j levels clear = absurd (omega (arith, clear some, f.sound.level_open))
broken_counted t l h f c some (suc n) j levels clear = c (suc n) j levels clear ∙ ap rules_asserted (sym (older_same n t h))

module _ (t : Term) (l : Lent) (h : History) (f : Fine l) (c : AsMany l h) (clean : l.notes.broken ≡ 0) (u : Tables) (grown : Grown l.tables u) (sound : Sound u) where
  older_counted : (n j : ℕ) → suc n + j ≡ u.counts.marks → rules_to j u ≡ rules_asserted (drop (suc n) (with_term t h))
  older_counted n j levels =
      let older : j < l.tables.counts.marks = omega (arith, levels, grown.same_open) in
      to_same j u l.tables (older_here l.tables u grown j older) (older_there l.tables u grown j older)
      ∙ c (suc n) j (levels ∙ grown.same_open) (λ some. absurd (some clean))
      ∙ ap rules_asserted (sym (older_same n t h))

  -- Without a clash its rules are added, all of the newest level; with one that level is not clear.
  added_counted :
      (clash : Bool) → AddsAll (map (resolved (step_of l)) (rules_of_term false t)) l.tables clash u → AsMany (with_tables u (broken_after clash u) l) (with_term t h)
  added_counted false adds zero j levels clear =
      omega (
        arith,
        to_all j u sound (omega (arith, levels)),
        adds_counted (map (resolved (step_of l)) (rules_of_term false t)) l.tables u adds,
        map_length (step_of l) (rules_of_term false t),
        all_counted l h f c clean,
        asserted_term t h,
      )
  added_counted false adds (suc n) j levels clear = older_counted n j levels
  added_counted true adds zero j levels clear = absurd (omega (arith, levels, clear (λ z. omega arith)))
  added_counted true adds (suc n) j levels clear = older_counted n j levels

-- Levels put on: a new one has all rules, and no term of its own.
push_counted : (n : ℕ) (l : Lent) (h : History) → Fine l → AsMany l h → AsMany (with_tables (with_marks n l.tables) l.notes.broken l) (with_levels n h)
push_counted n l h f c k j levels clear = tell (dec_lt j l.tables.counts.marks)
  where
    tell : Dec (j < l.tables.counts.marks) → rules_to j l.tables ≡ rules_asserted (drop k (with_levels n h))
    tell (yes older) = c (k - n) j (omega arith) clear ∙ ap rules_asserted (sym (all_off n k h (omega arith)))
    tell (no newer) =
        let newest = l.tables.counts.marks in
        let sound = f.sound.tables_sound in
        to_all j l.tables sound (omega arith)
        ∙ sym (to_all newest l.tables sound (omega arith))
        ∙ c 0 newest (omega arith) (λ some. omega (arith, clear some))
        ∙ sym (asserted_levels (n - k) h)
        ∙ ap rules_asserted (sym (newest_off n k h (omega arith)))

-- Levels taken off: those left have the rules that they had.
pop_counted :
    (n : ℕ) (l : Lent) (h : History) → AsMany l h → n ≤ l.tables.counts.marks → (u : Tables) → Popped n l.tables u →
    AsMany (with_tables u (broken_left l.notes.broken u) l) (drop n h)
pop_counted n l h c few u p k j levels clear =
    let left = left_of n l.tables u few p in
    let in-it : j ≤ u.counts.marks = omega (arith, levels) in
    to_same j u l.tables (left_here n l.tables u left j in-it) (left_there n l.tables u left j in-it)
    ∙ c (n + k) j (omega (arith, levels, left.marks_left)) (left_clear l.notes.broken u j in-it clear)
    ∙ ap rules_asserted (sym (drop_drop n k h))

-- So every change.
changes_counted :
    (r : Read Command) (l m : Lent) (h : History) → Fine l → First (read_needs r l) DONE → Changes r l m → AsMany l h → AsMany m (follows r h)
changes_counted (Read.got Command.set_logic e) l m h f met is c = subst (λ (x : Lent). AsMany x h) (sym is) c
changes_counted (Read.got Command.check_sat e) l m h f met is c = subst (λ (x : Lent). AsMany x h) (sym is) c
changes_counted (Read.got Command.exit e) l m h f met is c = subst (λ (x : Lent). AsMany x h) (sym is) c
changes_counted (Read.got (Command.declare w) e) l m h f met is c = subst (λ (x : Lent). AsMany x h) (sym is) c
changes_counted (Read.got (Command.assert t) e) l m h f met (inl (some, is)) c = subst (λ (x : Lent). AsMany x (with_term t h)) (sym is) (broken_counted t l h f c some)
changes_counted (Read.got (Command.assert t) e) l m h f met (inr (clean, (u, (clash, (adds, is))))) c =
    let rs = rules_of_term false t in
    let granted = assert_met t l met in
    let more = adds_kept (map (resolved (step_of l)) rs) l.tables u clash (tables_kept f) (rules_in l f rs granted.0)
    (omega (arith, granted.1 clean, map_length (step_of l) rs)) adds in
    subst (λ (x : Lent). AsMany x (with_term t h)) (sym is) (added_counted t l h f c clean u more.1 more.0.sound clash adds)
changes_counted (Read.got (Command.push n) e) l m h f met is c = subst (λ (x : Lent). AsMany x (with_levels (said_by n) h)) (sym is) (push_counted (said_by n) l h f c)
changes_counted (Read.got (Command.pop n) e) l m h f met (u, (popped, is)) c =
    subst (λ (x : Lent). AsMany x (drop (said_by n) h)) (sym is) (pop_counted (said_by n) l h c (pop_met n l met) u popped)
changes_counted (Read.got (Command.get_value ws) e) l m h f met is c = subst (λ (x : Lent). AsMany x h) (sym is) c
changes_counted (Read.stop Why.other i) l m h f met is c = subst (λ (x : Lent). AsMany x h) (sym is) c
changes_counted (Read.stop Why.wrong i) l m h f met impossible c = absurd impossible
changes_counted (Read.stop Why.size i) l m h f met impossible c = absurd impossible

-- ---- the record

-- The logic is set where it is told to be; there are as many names as are told, and the same; `sat` is remembered where a question was the last that counts and no level counts as contradictory.
pub record Noted (l : Lent) (k : Story) : Type 0 where
  pub same_logic : l.notes.logic ≡ k.logic
  pub as_many_names : l.notes.names ≡ length k.names
  pub same_names : (w : List ℕ) → Known l w ↔ OneOf k.names w
  pub same_sat : (l.notes.sat ≡ true) ↔ ((k.asked ≡ true) × (l.notes.broken ≡ 0))

-- Nothing is remembered, and no question counts.
none_asked : (b : ℕ) → (false ≡ true) ↔ ((false ≡ true) × (b ≡ 0))
none_asked b = ((λ never. absurd (false≢true never)), (λ both. both.0))

-- With a name more, those known are it and those known before.
one_known : (w v : List ℕ) (l : Lent) → Fine l → length w ≤ NAME_BYTES → l.notes.names < STEPS → Known (with_name w l) v ↔ ((v ≡ w) ⊎ Known l v)
one_known w v l f short few = (λ known. tell (step_of then v) known (known_name then.names then.lens v (n + 1) known) (ℕ_discrete (step_of then v) n), back)
  where
    then : Lent
    then = with_name w l

    n : ℕ
    n = l.notes.names

    new : name_at then.names then.lens n ≡ w
    new = name_new n w l.names l.lens few short (shelved_of f)

    old : (k : ℕ) → k < n → name_at then.names then.lens k ≡ name_at l.names l.lens k
    old = name_old n w l.names l.lens few short (shelved_of f)

    tell : (k : ℕ) → k < n + 1 → name_at then.names then.lens k ≡ v → Dec (k ≡ n) → (v ≡ w) ⊎ Known l v
    tell k below is (yes e) = inl (sym is ∙ ap (λ (i : ℕ). name_at then.names then.lens i) e ∙ new)
    tell k below is (no d) = inr (numbered_known l.names l.lens v n k (omega arith) (sym (old k (omega arith)) ∙ is))

    back : (v ≡ w) ⊎ Known l v → Known then v
    back (inl e) = numbered_known then.names then.lens v (n + 1) n (omega arith) (new ∙ sym e)
    back (inr known) =
        numbered_known then.names then.lens v (n + 1) (step_of l v) (omega (arith, known)) (old (step_of l v) known ∙ known_name l.names l.lens v n known)

-- Other tables and other bytes for the answers leave it.
noted_beside : (l : Lent) (k : Story) (t : Tables) (out : List ℕ) → Noted l k → Noted (with_out out (on_tables t l)) k
noted_beside l k t out n = record { same_logic = n.same_logic; as_many_names = n.as_many_names; same_names = n.same_names; same_sat = n.same_sat }

-- So does what only forgets a question.
noted_forgotten : (l m : Lent) (k : Story) (t : Tables) (b : ℕ) (h : History) → Noted l k → m ≡ with_tables t b l → Noted m (with_asserted h k)
noted_forgotten l m k t b h n is =
    subst (λ (x : Lent). Noted x (with_asserted h k)) (sym is)
    (record { same_logic = n.same_logic; as_many_names = n.as_many_names; same_names = n.same_names; same_sat = none_asked b })

-- Every change keeps it.
changes_noted : (r : Read Command) (l m : Lent) (k : Story) → Fine l → NamesInForm r → First (read_needs r l) DONE → Changes r l m → Noted l k → Noted m (onward r k)
changes_noted (Read.got Command.set_logic e) l m k f named met is n =
    subst (λ (x : Lent). Noted x (onward (Read.got Command.set_logic e) k)) (sym is)
    (record { same_logic = refl; as_many_names = n.as_many_names; same_names = n.same_names; same_sat = none_asked l.notes.broken })
changes_noted (Read.got Command.check_sat e) l m k f named met is n =
    subst (λ (x : Lent). Noted x (onward (Read.got Command.check_sat e) k)) (sym is)
    (record {
      same_logic = n.same_logic;
      as_many_names = n.as_many_names;
      same_names = n.same_names;
      same_sat = ((λ told. (refl, eqb-true l.notes.broken 0 told)), (λ clean. eq-eqb l.notes.broken 0 clean.1));
    })
changes_noted (Read.got Command.exit e) l m k f named met is n = noted_forgotten l m k l.tables l.notes.broken k.asserted n is
changes_noted (Read.got (Command.declare w) e) l m k f named met is n =
    subst (λ (x : Lent). Noted x (onward (Read.got (Command.declare w) e) k)) (sym is)
    (record {
      same_logic = n.same_logic;
      as_many_names = omega (arith, n.as_many_names);
      same_names = λ v. Iff.trans (one_known w.letters v l f (named w e refl).short (declare_met w l met).1) (⊎_map (λ e. e) (n.same_names v).0, ⊎_map (λ e. e) (n.same_names v).1);
      same_sat = none_asked l.notes.broken;
    })
changes_noted (Read.got (Command.assert t) e) l m k f named met (inl (some, is)) n =
    noted_forgotten l m k l.tables l.notes.broken (with_term t k.asserted) n is
changes_noted (Read.got (Command.assert t) e) l m k f named met (inr (clean, (u, (clash, (adds, is))))) n =
    noted_forgotten l m k u (broken_after clash u) (with_term t k.asserted) n is
changes_noted (Read.got (Command.push p) e) l m k f named met is n =
    noted_forgotten l m k (with_marks (said_by p) l.tables) l.notes.broken (with_levels (said_by p) k.asserted) n is
changes_noted (Read.got (Command.pop p) e) l m k f named met (u, (popped, is)) n =
    noted_forgotten l m k u (broken_left l.notes.broken u) (drop (said_by p) k.asserted) n is
changes_noted (Read.got (Command.get_value ws) e) l m k f named met is n = subst (λ (x : Lent). Noted x k) (sym is) n
changes_noted (Read.stop Why.other i) l m k f named met is n = subst (λ (x : Lent). Noted x k) (sym is) n
changes_noted (Read.stop Why.wrong i) l m k f named met impossible n = absurd impossible
changes_noted (Read.stop Why.size i) l m k f named met impossible n = absurd impossible

-- ---- the link

pub record Links (l : Lent) (k : Story) : Type 0 where
  pub in_force : InForce l k.asserted
  pub noted : Noted l k
  pub counted : AsMany l k.asserted

-- What is asserted after a text is told by what was asserted before.
pub told_asserted : (r : Read Command) (k : Story) → (onward r k).asserted ≡ follows r k.asserted
told_asserted (Read.got Command.set_logic e) k = refl
told_asserted (Read.got Command.check_sat e) k = refl
told_asserted (Read.got Command.exit e) k = refl
told_asserted (Read.got (Command.declare w) e) k = refl
told_asserted (Read.got (Command.assert t) e) k = refl
told_asserted (Read.got (Command.push n) e) k = refl
told_asserted (Read.got (Command.pop n) e) k = refl
told_asserted (Read.got (Command.get_value ws) e) k = refl
told_asserted (Read.stop w i) k = refl

-- At the start.
pub fresh_links : (l : Lent) → Fresh l → Links l begun
fresh_links l f = record {
  in_force = fresh_in_force l f;
  noted = record {
    same_logic = ap (λ n. n.logic) f.notes_are;
    as_many_names = names;
    same_names = λ w. ((λ known. omega (arith, known, names)), (λ never. absurd never));
    same_sat = ((λ told. absurd (false≢true (sym (ap (λ n. n.sat) f.notes_are) ∙ told))), (λ both. absurd (false≢true both.0)));
  };
  counted = fresh_counted l f;
}
  where
    names : l.notes.names ≡ 0
    names = ap (λ n. n.names) f.notes_are

-- Other bytes for the answers.
pub bytes_links : (l : Lent) (k : Story) (out : List ℕ) → Links l k → Links (with_out out l) k
bytes_links l k out i = record {
  in_force = bytes_in_force l k.asserted out i.in_force;
  noted = noted_beside l k l.tables out i.noted;
  counted = i.counted;
}

-- **Every text** that is carried out keeps the link.
pub command_links : (text : List ℕ) (i w : ℕ) (l m : Lent) (k : Story) → Links l k → First (text_needs text l) DONE → Does (reading text) i l w m → Links m (onward (reading text) k)
command_links text i w l m k links needs-met (mid, (changes, (w-is, is))) =
    let r = reading text in
    let f = links.in_force.fine in
    let met = (text_met text l needs-met).1 in
    let noted = changes_noted r l mid k f (declared_in_form text) met changes links.noted in
    let counted = changes_counted r l mid k.asserted f met changes links.counted in
    record {
      in_force = subst (InForce m) (sym (told_asserted r k)) (command_in_force text i w l m k.asserted links.in_force needs-met (mid, (changes, (w-is, is))));
      noted = subst (λ (x : Lent). Noted x (onward r k)) (sym is) (noted_beside mid (onward r k) mid.tables _ noted);
      counted = subst (AsMany m) (sym (told_asserted r k)) (subst (λ (x : Lent). AsMany x (follows r k.asserted)) (sym is) counted);
    }

-- **A quiet call** keeps it.
pub quiet_links : (l : Lent) (k : Story) (t : Tables) → Links l k → InForce (on_tables t l) k.asserted → Quietly l.tables t → Links (on_tables t l) k
quiet_links l k t i force quiet = record {
  in_force = force;
  noted = noted_beside l k t l.out i.noted;
  counted = tell quiet;
}
  where
    tell : Quietly l.tables t → AsMany (on_tables t l) k.asserted
    tell (inl is) = subst (λ (x : Tables). AsMany (on_tables x l) k.asserted) (sym is) i.counted
    tell (inr (r, is)) = subst (λ (x : Tables). AsMany (on_tables x l) k.asserted) (sym is) i.counted
