-- Taking the newest rule off its chain: that it can be done, and that the chains of one rule fewer are left.
use Prim.Native.Nat.{ℕ, ◌+◌, ◌<◌}
use native.Mathlib.Omega.{arith}
use mathlib.Core.Path.{◌≡◌, subst}
use mathlib.Core.List.{List}
use lib.ListN.{length}
use Rattle.meaning.specs.Tables.{at}
use Rattle.lent.specs.Lent.{first}
use Rattle.chains.specs.Chains.{Linkable, Dropped, LentChains}
use Rattle.chains.proofs.Laws.{first_less}

module _ {n m i : ℕ} {xs heads nexts : List ℕ} (newest : m ≡ i + 1) (chains : LentChains n (first m) xs heads nexts) (first_in : at xs i < n) where
  pub linkable : i < length xs → Linkable i xs heads nexts
  linkable first_place = record {
    first_place = first_place;
    next_place = omega (arith, (chains.on i (omega arith)).0, chains.nexts_room);
    head_place = omega (arith, chains.heads_room);
    link_fits = omega (arith, (chains.on i (omega arith)).0);
  }

  pub one_fewer : {heads' nexts' : List ℕ} → Dropped i xs heads nexts heads' nexts' → LentChains n (first i) xs heads' nexts'
  one_fewer {heads'} {nexts'} dropped =
      first_less n i xs first_in heads nexts heads' nexts' dropped (subst (λ (k : ℕ). LentChains n (first k) xs heads nexts) newest chains)
