-- A walk along the chain of the names with the hash of w: it meets every name w that stands below where it began.
use Prim.Native.Nat.{ℕ, suc, ◌+◌, ◌≤◌, ◌<◌}
use native.Mathlib.Omega.{arith}
use native.Mathlib.Decide.{ℕ_discrete, dec_lt}
use mathlib.Core.Path.{◌≡◌, refl, sym, ap, ◌∙◌}
use mathlib.Core.List.{List}
use Rattle.std.specs.Prelude.{Option, Some, None, MatchOption}
use Rattle.meaning.specs.Bounds.{STEPS}
use Rattle.meaning.specs.Tables.{at}
use Rattle.chains.proofs.Laws.{head_in, head_newest, next_in, next_newest}
use Rattle.names.specs.Names.{BUCKETS, hash, name_at, Indexed, Linked, LinkOf, Unknown, Stands, AllDifferent}
use Rattle.names.proofs.Hashing.{hash_small}

-- An index links its names.
pub linked : (n : ℕ) (names lens hashes heads nexts : List ℕ) → n ≤ STEPS → Indexed n names lens hashes heads nexts → Linked n names lens nexts
linked n names lens hashes heads nexts few i = record {
  links_room = omega (arith, i.room.nexts_room);
  next_in = next_in BUCKETS n hashes heads nexts i.chained;
  next_own = λ k j h e. sym (i.hashes_are j (omega (arith, next_in BUCKETS n hashes heads nexts i.chained k h))) ∙ i.chained.next_own k j h e ∙ i.hashes_are k h;
  next_newest = λ k j h l e. next_newest BUCKETS n hashes heads nexts i.chained k j h l (i.hashes_are j (omega arith) ∙ e ∙ sym (i.hashes_are k h));
}

-- The walk begins at the head of the hash of w, and every name w stands below it.
module _ (n : ℕ) (names lens hashes heads nexts : List ℕ) (i : Indexed n names lens hashes heads nexts) (w : List ℕ) where
  pub link_head : LinkOf n names lens w (at heads (hash w))
  link_head = record {
    link_in = head_in BUCKETS n hashes heads nexts i.chained (hash w) (hash_small w);
    link_own = λ k e. sym (i.hashes_are k (omega (arith, head_in BUCKETS n hashes heads nexts i.chained (hash w) (hash_small w)))) ∙ i.chained.head_own (hash w) k (hash_small w) e;
  }

  pub found_all :
      (r : Option ℕ) → MatchOption r (Unknown (at heads (hash w)) names lens w) (λ k. Stands (at heads (hash w)) names lens w k) →
      MatchOption r (Unknown n names lens w) (λ k. Stands n names lens w k)
  found_all (Some r) met = (omega (arith, met.0, head_in BUCKETS n hashes heads nexts i.chained (hash w) (hash_small w)), met.1)
  found_all None none = λ k h e. none k (head_newest BUCKETS n hashes heads nexts i.chained (hash w) k (hash_small w) h (i.hashes_are k h ∙ ap hash e)) e

-- Every name at the link l or above, and below where the walk began, is not w.
abbrev pub Passed : List ℕ → List ℕ → List ℕ → ℕ → ℕ → Type 0
Passed names lens w link l = (j : ℕ) → l ≤ j → j < link → name_at names lens j ≡ w → ⊥

module _ (n : ℕ) (names lens nexts w : List ℕ) (links : Linked n names lens nexts) where
  -- From name k the walk goes on at the next of k.
  pub link_next : (k : ℕ) → LinkOf n names lens w (suc k) → LinkOf n names lens w (at nexts k)
  link_next k here = record {
    link_in = omega (arith, here.link_in, links.next_in k here.link_in);
    link_own = λ j e. links.next_own k j here.link_in e ∙ here.link_own k refl;
  }

  pub passed_next :
      (link k : ℕ) → LinkOf n names lens w (suc k) → Passed names lens w link (suc k) → (name_at names lens k ≡ w → ⊥) → Passed names lens w link (at nexts k)
  passed_next link k here passed apart j above below e = by_place (ℕ_discrete j k) (dec_lt j k)
    where
      by_place : Dec (j ≡ k) → Dec (j < k) → ⊥
      by_place (yes same) l? = apart (ap (name_at names lens) (sym same) ∙ e)
      by_place (no other) (yes l) = omega (arith, links.next_newest k j here.link_in l (ap hash e ∙ sym (here.link_own k refl)))
      by_place (no other) (no l) = passed j (omega arith) below e

-- From name k on, the walk of the names that are the same as name k.
module _ (n : ℕ) (names lens nexts : List ℕ) (links : Linked n names lens nexts) (k : ℕ) (h : k < n) where
  pub link_from : LinkOf n names lens (name_at names lens k) (at nexts k)
  link_from = record { link_in = omega (arith, links.next_in k h); link_own = λ j e. links.next_own k j h e }

  -- Where none below the next of k is the same, none below k is.
  pub unknown_below : Unknown (at nexts k) names lens (name_at names lens k) → Unknown k names lens (name_at names lens k)
  unknown_below none j l e = none j (links.next_newest k j h l (ap hash e)) e

  -- What the walk finds is the same name under an older number; where it finds none, all names up to k are different if those before are.
  pub older_same : (r : ℕ) → Stands (at nexts k) names lens (name_at names lens k) r → AllDifferent n names lens → ⊥
  older_same r met all = all r k (omega (arith, met.0, links.next_in k h)) h met.1

  pub different_more : Unknown (at nexts k) names lens (name_at names lens k) → AllDifferent k names lens → AllDifferent (k + 1) names lens
  different_more none all i j before below = by_place (ℕ_discrete j k)
    where
      by_place : Dec (j ≡ k) → name_at names lens i ≡ name_at names lens j → ⊥
      by_place (yes e) = rw e (unknown_below none i (omega arith))
      by_place (no other) = all i j before (omega arith)
