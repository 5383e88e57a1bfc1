-- The script's record as C lends it: a promise kept over the notes is kept over the record.
use Prim.Native.Nat.{ℕ, ◌≤◌, ◌<◌}
use native.Mathlib.Omega.{arith}
use mathlib.Core.Path.{◌≡◌, refl, sym, ◌∙◌, ap, subst}
use mathlib.Core.Bool.{Bool, true, false, cond}
use mathlib.Core.List.{List}
use lib.Dec.{eqb}
use mathlib.Core.Logic.{◌⊎◌, inl, inr}
use Rattle.meaning.specs.Bounds.{STEPS, DONE, SHORT, DAMAGED, CONFLICT}
use Rattle.meaning.specs.Tables.{Tables}
use Rattle.meaning.specs.Promise.{Given, First, Obeys, bare}
use Rattle.script_meaning.specs.declared.Notes.{Notes}
use Rattle.script_meaning.specs.Record.{Lent, StartRoom, ScriptRoom, ScriptSound}
use Rattle.script_meaning.specs.Commands.{Commanded, start_meaning, command_meaning}
use Rattle.export_record.specs.declared.Record.{Record}
use Rattle.export_record.specs.Records.{FlagsFit, notes_of, LentByC, start_by_c, command_by_c, Handed, Brought}
use Rattle.export_record.proofs.Telling.{tell_none}

abbrev noted : Tables → List ℕ → List ℕ → List ℕ → Notes → Lent
noted t names lens out n = record { tables = t; notes = n; names = names; lens = lens; out = out }

abbrev kept : Tables → List ℕ → List ℕ → List ℕ → Record → LentByC
kept t names lens out r = record { tables = t; kept = r; names = names; lens = lens; out = out }

-- A flag as a number, and back.
bit_fits : (b : Bool) (k : ℕ) → k ≡ cond b 1 0 → k ≤ 1
bit_fits true k e = omega (arith, e)
bit_fits false k e = omega (arith, e)

bit_says : (b : Bool) → eqb (cond b 1 0) 1 ≡ b
bit_says true = refl
bit_says false = refl

module _ (n : Notes) (l s : ℕ) (e : l ≡ cond n.logic 1 0) (f : s ≡ cond n.sat 1 0) where
  -- The record of the notes.
  abbrev told : Record
  told = record { names = n.names; logic = l; broken = n.broken; sat = s }

  pub told_fits : FlagsFit told
  told_fits = record { logic_fits = bit_fits n.logic l e; sat_fits = bit_fits n.sat s f }

  pub told_says : notes_of told ≡ n
  told_says i = record {
    names = n.names;
    logic = (ap (λ (k : ℕ). eqb k 1) e ∙ bit_says n.logic) i;
    broken = n.broken;
    sat = (ap (λ (k : ℕ). eqb k 1) f ∙ bit_says n.sat) i;
  }

-- Whether there is room does not hang on the notes.
module _ (t : Tables) (names lens out : List ℕ) (n n' : Notes) where
  start_room : StartRoom (noted t names lens out n) → StartRoom (noted t names lens out n')
  start_room h = record { tables_room = h.tables_room; names_room = h.names_room; lens_room = h.lens_room }

  script_room : ScriptRoom 0 (noted t names lens out n) → ScriptRoom 0 (noted t names lens out n')
  script_room h = record { start_room = start_room h.start_room; out_room = h.out_room }

-- More names than there may be are no sound record's.
too_many : (l : Lent) → STEPS < l.notes.names → ScriptSound l → ⊥
too_many l big s = omega (arith, big, s.names_in)

-- SHORT where R is not met, DAMAGED where S is not, and else what X says.
abbrev pub Second : ℕ → Type 0 → Type 0 → Type 0 → Type 0
Second k R S X = ((k ≡ SHORT) × (R → ⊥)) ⊎ (R × (((k ≡ DAMAGED) × (S → ⊥)) ⊎ (S × X)))

-- Where a record fits, one need more is met.
pub fitting : {k : ℕ} {R F S X : Type 0} → F → Second k R S X → Second k R (F × S) X
fitting f (inl h) = inl h
fitting f (inr (r, inl (e, u))) = inr (r, inl (e, λ p. u p.1))
fitting f (inr (r, inr (s, h))) = inr (r, inr ((f, s), h))

-- Where neither the record nor what stands in for it is sound, the refusals are the same.
refusing : {k : ℕ} {R R' F S S' X X' : Type 0} → (R → R') → (R' → R) → (F → ⊥) → (S → ⊥) → Second k R S X → Second k R' (F × S') X'
refusing to back nf ns (inl (e, u)) = inl (e, λ r. u (back r))
refusing to back nf ns (inr (r, inl (e, u))) = inr (to r, inl (e, λ p. nf p.0))
refusing to back nf ns (inr (r, inr (s, h))) = absurd (ns s)

-- There the number is SHORT or DAMAGED.
pub refused : {k : ℕ} {R S X : Type 0} → (S → ⊥) → Second k R S X → (k ≡ SHORT) ⊎ (k ≡ DAMAGED)
refused ns (inl (e, u)) = inl e
refused ns (inr (r, inl (e, u))) = inr e
refused ns (inr (r, inr (s, h))) = absurd (ns s)

pub not_done : {k : ℕ} → (k ≡ SHORT) ⊎ (k ≡ DAMAGED) → k ≡ DONE → ⊥
not_done (inl e) h = omega (arith, e, h)
not_done (inr e) h = omega (arith, e, h)

pub not_conflict : {k : ℕ} → (k ≡ SHORT) ⊎ (k ≡ DAMAGED) → k ≡ CONFLICT → ⊥
not_conflict (inl e) h = omega (arith, e, h)
not_conflict (inr e) h = omega (arith, e, h)

module _ (t : Tables) (names lens out : List ℕ) (n : Notes) (r : Record) (t' : Tables) (names' lens' out' : List ℕ) (n' : Notes) (r' : Record) where
  -- What is lent is as it was where the notes and the record are.
  as_it_was : noted t' names' lens' out' n' ≡ noted t names lens out n → r' ≡ r → kept t' names' lens' out' r' ≡ kept t names lens out r
  as_it_was p q i = record { tables = (p i).tables; kept = q i; names = (p i).names; lens = (p i).lens; out = (p i).out }

  pub start_kept : (k : ℕ) (g : Given) → k ≡ g.number → Brought k n' r r' → Obeys (start_meaning (noted t names lens out n)) (noted t names lens out n) g (noted t' names' lens' out' n')
      → Obeys (start_by_c (kept t names lens out r)) (kept t names lens out r) (bare k) (kept t' names' lens' out' r')
  start_kept k g e b given = record {
    first_unmet = room o.first_unmet;
    when_done = λ d. record {
      as_meant = record {
        opened = (o.when_done d).opened;
        emptied = (b.when_done d).1 ∙ (o.when_done d).emptied;
        names_stay = (o.when_done d).names_stay;
        lens_stay = (o.when_done d).lens_stay;
        out_stays = (o.when_done d).out_stays;
      };
      flags_fit = (b.when_done d).0;
    };
    on_conflict = λ c. absurd (o.on_conflict c).0;
    when_refused = λ u v. (refl, as_it_was (o.when_refused u v).1 (b.when_refused u));
  }
    where
      o : Obeys (start_meaning (noted t names lens out n)) (noted t names lens out n) (bare k) (noted t' names' lens' out' n')
      o = tell_none _ _ _ _ given (λ x y s d. d.opened.no_values) (λ x s never. never) k e

      room : First (start_meaning (noted t names lens out n)).asks k → First (start_by_c (kept t names lens out r)).asks k
      room (inl (f, u)) = inl (f, λ h. u (start_room t names lens out (notes_of r) n h))
      room (inr (h, f)) = inr (start_room t names lens out n (notes_of r) h, f)

  module _ (text : List ℕ) (g : Given) (b : Brought g.number n' r r') where
    -- The flags fit, and the notes are what the record says.
    fits_kept : FlagsFit r → Obeys (command_meaning text (noted t names lens out (notes_of r))) (noted t names lens out (notes_of r)) g (noted t' names' lens' out' n')
        → Obeys (command_by_c text (kept t names lens out r)) (kept t names lens out r) g (kept t' names' lens' out' r')
    fits_kept f o = record {
      first_unmet = fitting f o.first_unmet;
      when_done = λ d. record {
        as_meant = subst (λ (z : Notes). Commanded text (noted t names lens out (notes_of r)) g.one g.two (noted t' names' lens' out' z)) (sym (b.when_done d).1) (o.when_done d);
        flags_fit = (b.when_done d).0;
      };
      on_conflict = λ c. absurd (o.on_conflict c).0;
      when_refused = λ u v. (
        (o.when_refused u v).0,
        λ i. record {
          tables = ((o.when_refused u v).1 i).tables;
          kept = b.when_refused u i;
          names = ((o.when_refused u v).1 i).names;
          lens = ((o.when_refused u v).1 i).lens;
          out = ((o.when_refused u v).1 i).out;
        },
      );
    }

    -- They do not, and the notes are no sound record's.
    unfit-kept : (FlagsFit r → ⊥) → STEPS < n.names → Obeys (command_meaning text (noted t names lens out n)) (noted t names lens out n) g (noted t' names' lens' out' n')
        → Obeys (command_by_c text (kept t names lens out r)) (kept t names lens out r) g (kept t' names' lens' out' r')
    unfit-kept nf big o = record {
      first_unmet = refusing (script_room t names lens out n (notes_of r)) (script_room t names lens out (notes_of r) n) nf (too_many _ big) o.first_unmet;
      when_done = λ d. absurd (not_done (refused (too_many _ big) o.first_unmet) d);
      on_conflict = λ c. absurd (not_conflict (refused (too_many _ big) o.first_unmet) c);
      when_refused = λ u v. ((o.when_refused u v).0, as_it_was (o.when_refused u v).1 (b.when_refused u));
    }

    pub command_kept : Handed r n → Obeys (command_meaning text (noted t names lens out n)) (noted t names lens out n) g (noted t' names' lens' out' n')
        → Obeys (command_by_c text (kept t names lens out r)) (kept t names lens out r) g (kept t' names' lens' out' r')
    command_kept (inl (f, e)) o =
        fits_kept f (subst (λ (z : Notes). Obeys (command_meaning text (noted t names lens out z)) (noted t names lens out z) g (noted t' names' lens' out' n')) e o)
    command_kept (inr (nf, big)) o = unfit-kept nf big o
