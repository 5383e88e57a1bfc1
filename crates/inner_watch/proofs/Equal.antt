-- Tables are equal where their parts are.
use mathlib.Core.Path.{◌≡◌}
use Rattle.meaning.specs.Tables.{Tables}

pub tables_equal : (t u : Tables) → t.counts ≡ u.counts → t.rules ≡ u.rules → t.days ≡ u.days → t.levels ≡ u.levels → t.watched ≡ u.watched → t ≡ u
tables_equal t u c r d l w i = record { counts = c i; rules = r i; days = d i; levels = l i; watched = w i }
