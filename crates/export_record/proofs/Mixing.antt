-- After any sequence of calls over what C lends the tables are sound, one question splits the watched rules exactly, and the last day stored is the largest: every such sequence is one over
-- what is seen of it. A command on a record whose flags do not fit is refused and changes nothing, so it leaves no trace.
use Prim.Native.Nat.{ℕ, ◌≤◌}
use native.Mathlib.Decide.{dec_le}
use mathlib.Core.Path.{◌≡◌, sym, ap, subst}
use mathlib.Core.List.{List}
use mathlib.Core.Logic.{inl, inr}
use lib.ListN.{length}
use Rattle.meaning.specs.Bounds.{DONE}
use Rattle.meaning.specs.Rules.{largest}
use Rattle.meaning.specs.Tables.{Tables, at}
use Rattle.meaning.specs.Promise.{Given, gave, Obeys}
use Rattle.meaning.specs.Calls.{Split}
use Rattle.meaning.specs.Runs.{Call, Made}
use Rattle.meaning.proofs.Sequences.{Kept}
use Rattle.script_meaning.specs.Commands.{start_meaning, command_meaning}
use Rattle.script_meaning.specs.Mixed.{MixedRun, MixedOf}
use Rattle.script_meaning.proofs.Mixing.{mixed_kept, mixed_splits, mixed_last}
use Rattle.export_record.specs.declared.Record.{Record}
use Rattle.export_record.specs.Records.{FlagsFit, LentByC, seen, start_by_c, command_by_c}
use Rattle.export_record.specs.Mixed.{MixedByC}
use Rattle.export_record.proofs.Keeping.{Second, refused, not_done, not_conflict}

-- Whether the flags fit can be told.
pub flags_fit? : (r : Record) → Dec (FlagsFit r)
flags_fit? r = tell (dec_le r.logic 1) (dec_le r.sat 1)
  where
    tell : Dec (r.logic ≤ 1) → Dec (r.sat ≤ 1) → Dec (FlagsFit r)
    tell (yes logic) (yes sat) = yes (record { logic_fits = logic; sat_fits = sat })
    tell (no not-logic) sat = no (λ f. not-logic f.logic_fits)
    tell (yes logic) (no not-sat) = no (λ f. not-sat f.sat_fits)

-- A start over the record is one over what is seen of it.
pub start_seen : (l : LentByC) (g : Given) (after : LentByC) → Obeys (start_by_c l) l g after → Obeys (start_meaning (seen l)) (seen l) g (seen after)
start_seen l g after x = record {
  first_unmet = x.first_unmet;
  when_done = λ done. (x.when_done done).as_meant;
  on_conflict = λ e. absurd (x.on_conflict e).0;
  when_refused = λ u v. ((x.when_refused u v).0, ap seen (x.when_refused u v).1);
}

-- Where the flags fit the need of them is no need.
fitted : {k : ℕ} {R F S X : Type 0} → F → Second k R (F × S) X → Second k R S X
fitted f (inl h) = inl h
fitted f (inr (r, inl (e, u))) = inr (r, inl (e, λ s. u (f, s)))
fitted f (inr (r, inr (s, h))) = inr (r, inr (s.1, h))

-- So a command on a record whose flags fit is one over what is seen of it.
pub command_seen :
    (text : List ℕ) (l : LentByC) (g : Given) (after : LentByC) → FlagsFit l.kept → Obeys (command_by_c text l) l g after → Obeys (command_meaning text (seen l)) (seen l) g (seen after)
command_seen text l g after fits x = record {
  first_unmet = fitted fits x.first_unmet;
  when_done = λ done. (x.when_done done).as_meant;
  on_conflict = λ e. absurd (x.on_conflict e).0;
  when_refused = λ u v. ((x.when_refused u v).0, ap seen (x.when_refused u v).1);
}

-- A command on any other record changes nothing.
command_unfit : (text : List ℕ) (l : LentByC) (g : Given) (after : LentByC) → (FlagsFit l.kept → ⊥) → Obeys (command_by_c text l) l g after → after ≡ l
command_unfit text l g after unfit x =
    let which = refused (λ s. unfit s.0) x.first_unmet in
    (x.when_refused (not_done which) (not_conflict which)).1

-- **A sequence over what C lends is one over what is seen of it.**
pub mixed_seen : (l : LentByC) → MixedByC l → MixedRun (seen l)
mixed_seen l (MixedOf.from_open n m g t made done) = MixedOf.from_open n (seen m) g t made done
mixed_seen l (MixedOf.from_start m g after x done) = MixedOf.from_start (seen m) g (seen l) (start_seen m g l x) done
mixed_seen l (MixedOf.then_call m run c g t made) = MixedOf.then_call (seen m) (mixed_seen m run) c g t made
mixed_seen l (MixedOf.then_start m run g after x) = MixedOf.then_start (seen m) (mixed_seen m run) g (seen l) (start_seen m g l x)
mixed_seen l (MixedOf.then_command m run text g after x) = tell (mixed_seen m run) (flags_fit? m.kept)
  where
    tell : MixedRun (seen m) → Dec (FlagsFit m.kept) → MixedRun (seen l)
    tell before (yes fits) = MixedOf.then_command (seen m) before text g (seen l) (command_seen text m g l fits x)
    tell before (no unfit) = subst (λ (z : LentByC). MixedRun (seen z)) (sym (command_unfit text m g l unfit x)) before

-- **After any sequence of calls the tables are sound**, and have room.
pub mixed_by_c_kept : (l : LentByC) → MixedByC l → Kept l.tables
mixed_by_c_kept l run = mixed_kept (seen l) (mixed_seen l run)

-- **After any sequence**, with lists long enough, Consequences is carried out and what it gives is exactly the split.
pub mixed_by_c_splits :
    (l : LentByC) (one two one' two' : List ℕ) (g : Given) (u : Tables) → MixedByC l → l.tables.counts.watched ≤ length one → l.tables.counts.watched ≤ length two →
    Made (Call.asks_consequences one one' two two') l.tables g u →
    (g.number ≡ DONE) × Split (record { tables = l.tables; one = one; two = two }) g.one g.two (record { tables = u; one = one'; two = two' })
mixed_by_c_splits l one two one' two' g u run = mixed_splits (seen l) one two one' two' g u (mixed_seen l run)

-- **After any sequence** the last day stored is the largest day of the plan, and Last day is carried out, gives it and changes nothing.
pub mixed_by_c_last :
    (l : LentByC) (g : Given) (u : Tables) → MixedByC l → Made Call.asks_last_day l.tables g u →
    (l.tables.counts.last ≡ largest l.tables.counts.steps (at l.tables.days)) × (g ≡ gave DONE l.tables.counts.last 0) × (u ≡ l.tables)
mixed_by_c_last l g u run = mixed_last (seen l) g u (mixed_seen l run)
