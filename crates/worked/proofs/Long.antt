-- How many places the lists of an office have, by its type.
use Rattle.std.proofs.Common.{◌≡◌, ◌+◌, length, sym, rules}
use denote.Laws.{Is}
use denote.Struct.Declared.{row}
use denote.Struct.Laws as S
use Rattle.meaning.specs.Bounds.{STEPS, RULES, WATCHED}
use Rattle.worked.specs.declared.office.Office.{Office}
use Rattle.worked.specs.contracts.office.Office as O
use Rattle.worked.proofs.office.Office.TheLaws as L

-- What is known of an office by its type.
abbrev pub Held : Office → Type 0
Held o = Is (row O.the_type) o (S.vals O.the_type L.the_laws o)

-- How many places each list has.
pub record Long (o : Office) : Type 0 where
  pub xs : RULES + 1 ≡ length o.rules.xs
  pub ys : RULES + 1 ≡ length o.rules.ys
  pub cs : RULES + 1 ≡ length o.rules.cs
  pub days : STEPS + 1 ≡ length o.days
  pub levels : RULES + 1 ≡ length o.levels
  pub wxs : WATCHED + 1 ≡ length o.watched.xs
  pub wys : WATCHED + 1 ≡ length o.watched.ys
  pub wcs : WATCHED + 1 ≡ length o.watched.cs
  pub one : WATCHED + 1 ≡ length o.one
  pub two : WATCHED + 1 ≡ length o.two

the_xs : (o : Office) → Held o → length o.rules.xs ≡ RULES + 1
the_xs o g = search rules

the_ys : (o : Office) → Held o → length o.rules.ys ≡ RULES + 1
the_ys o g = search rules

the_cs : (o : Office) → Held o → length o.rules.cs ≡ RULES + 1
the_cs o g = search rules

the_days : (o : Office) → Held o → length o.days ≡ STEPS + 1
the_days o g = search rules

the_levels : (o : Office) → Held o → length o.levels ≡ RULES + 1
the_levels o g = search rules

the_wxs : (o : Office) → Held o → length o.watched.xs ≡ WATCHED + 1
the_wxs o g = search rules

the_wys : (o : Office) → Held o → length o.watched.ys ≡ WATCHED + 1
the_wys o g = search rules

the_wcs : (o : Office) → Held o → length o.watched.cs ≡ WATCHED + 1
the_wcs o g = search rules

the_one : (o : Office) → Held o → length o.one ≡ WATCHED + 1
the_one o g = search rules

the_two : (o : Office) → Held o → length o.two ≡ WATCHED + 1
the_two o g = search rules

pub long : (o : Office) → Held o → Long o
long o g = record { xs = sym (the_xs o g); ys = sym (the_ys o g); cs = sym (the_cs o g); days = sym (the_days o g); levels = sym (the_levels o g); wxs = sym (the_wxs o g); wys = sym (the_wys o g); wcs = sym (the_wcs o g); one = sym (the_one o g); two = sym (the_two o g) }
