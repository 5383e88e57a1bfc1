-- Where a command begins: a token that is not the end stands in the text.
use Prim.Native.Nat.{ℕ, ◌+◌, ◌≤◌}
use native.Mathlib.Omega.{arith}
use mathlib.Core.Path.{◌≡◌, ap, ◌∙◌}
use mathlib.Core.List.{List}
use Rattle.meaning.specs.Bounds.{ROOM}
use Rattle.text.specs.Lexicon.{END, Tok, token_at}
use Rattle.text.proofs.Tokens.{token_placed}
use Rattle.script_run.specs.Stepping.{CommandThere}

pub begun : (s : List ℕ) (i len k : ℕ) (t : Tok) → t ≡ token_at s i → (t.kind ≡ END → ⊥) → k + ROOM ≤ len → CommandThere s i len k t.from
begun s i len k t is some room =
    let place = token_placed s i t is in
    record {
      not_over = λ e. some (ap (λ (u : Tok). u.kind) is ∙ e);
      room = room;
      from_is = ap (λ (u : Tok). u.from) is;
      within = omega (arith, (place.some some).0, (place.some some).1);
      onward = place.starts;
    }
