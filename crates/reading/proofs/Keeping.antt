-- The rows keep their columns through one call after another.
use mathlib.Core.Path.{refl, ◌∙◌}
use Rattle.reading.specs.declared.rows.Rows.{Rows}
use Rattle.reading.specs.Rows.{Kept}

pub kept_same : (a : Rows) → Kept a a
kept_same a = record { same_xs = refl; same_ys = refl; same_cs = refl; as_many_xs = refl; as_many_ys = refl; as_many_cs = refl }

pub kept_more : (a b c : Rows) → Kept a b → Kept b c → Kept a c
kept_more a b c h k = record {
  same_xs = k.same_xs ∙ h.same_xs;
  same_ys = k.same_ys ∙ h.same_ys;
  same_cs = k.same_cs ∙ h.same_cs;
  as_many_xs = k.as_many_xs ∙ h.as_many_xs;
  as_many_ys = k.as_many_ys ∙ h.as_many_ys;
  as_many_cs = k.as_many_cs ∙ h.as_many_cs;
}
