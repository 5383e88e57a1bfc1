-- Tables that Open, or the start of a script, leaves: where every step has day 0, so is the last day.
use Prim.Native.Nat.{ℕ, ◌<◌}
use mathlib.Core.Path.{◌≡◌, sym}
use mathlib.Core.List.{List}
use Rattle.meaning.specs.Tables.{Tables, at, opened, steps_alone, last_now, with_days}
use Rattle.meaning.proofs.LastDay.{largest_zeros}

pub opened_days :
    (n : ℕ) (t : Tables) (levels days : List ℕ) → ((v : ℕ) → v < n → at days v ≡ 0) →
    record { counts = steps_alone n; rules = t.rules; days = days; levels = levels; watched = t.watched } ≡ with_days days (opened n levels t)
opened_days n t levels days zeros i = record {
  counts = last_now (sym (largest_zeros n (at days) zeros) i) (steps_alone n);
  rules = t.rules;
  days = days;
  levels = levels;
  watched = t.watched;
}
