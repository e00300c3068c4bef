-- Laws of chains: a search that ends at 0 met every entry of its bucket, and one entry more. Assumes nothing.
use Prim.Native.Nat.{ℕ, suc, ◌≤◌, ◌<◌}
use mathlib.Core.Path.{◌≡◌, sym, ◌∙◌, ap}
use native.Mathlib.Omega.{arith}
use Rattle.srlg.proofs.Laws.{Order, less, more, same, order}
use Rattle.srlg_table.specs.Chains.{Chain, Search}

module _ (buckets : ℕ) (bucket next first : ℕ → ℕ) (count : ℕ) (chain : Chain buckets bucket next first count) where
  module _ (b : ℕ) (Not : ℕ → Type 0) where
    pub search-start : b < buckets → Search bucket count b Not (first b)
    search-start h =
        record {
          low = chain.first_low b h;
          here = chain.first_in b h;
          past = λ d l m e. let f : d ≤ first b = (rw e at (chain.first_last d (omega arith) m)) in absurd (omega arith);
        }

    pub search-next : (i : ℕ) → 0 < i → Not i → Search bucket count b Not i → Search bucket count b Not (next i)
    search-next i h not-here so =
        let low = so.low in
        let less-low = chain.next_low i h so.low in
        record {
          low = omega arith;
          here = λ p. chain.next_in i h so.low p ∙ so.here h;
          past = λ d l m e. go d l m e (order d i);
        }
      where
        go : (d : ℕ) → next i < d → d < count → bucket d ≡ b → Order d i → Not d
        go d l m e (more q) = so.past d q m e
        go d l m e (less q) = absurd (omega (arith, chain.next_last i d h so.low (omega arith) q (e ∙ sym (so.here h))))
        go d l m e (same q) = rw q not-here

    pub search-end : (i : ℕ) → i ≡ 0 → Search bucket count b Not i → (d : ℕ) → 0 < d → d < count → bucket d ≡ b → Not d
    search-end i z so d h m e = so.past d (omega arith) m e

  -- The entry behind the others, in bucket b, made the first of its chain.
  module _ (bucket' next' first' : ℕ → ℕ) (b : ℕ) (inside : b < buckets) (some : 0 < count)
      (bucket-old : (d : ℕ) → d < count → bucket' d ≡ bucket d) (next-old : (d : ℕ) → d < count → next' d ≡ next d) (first-old : (c : ℕ) → c < buckets → (c ≡ b → ⊥) → first' c ≡ first c)
      (bucket-new : bucket' count ≡ b) (next-new : next' count ≡ first b) (first-new : first' b ≡ count) where
    pub chain_more : ((d : ℕ) → d < count → bucket d < buckets) → Chain buckets bucket' next' first' (suc count)
    chain_more low =
        record {
          first_low = λ c h. first-low c h (order c b);
          first_in = λ c h. first-in c h (order c b);
          first_last = λ d h m. first-last d h m (order d count);
          next_low = λ i h m. next_low_lem i h m (order i count);
          next_in = λ i h m. next-in i h m (order i count);
          next_last = λ i d h m k l. next_last_lem i d h m k l (order i count);
        }
      where
        first-low : (c : ℕ) → c < buckets → Order c b → first' c < suc count
        first-low c h (same e) = omega (arith, ap first' e, first-new)
        first-low c h (less e) = omega (arith, first-old c h (λ f. omega arith), chain.first_low c h)
        first-low c h (more e) = omega (arith, first-old c h (λ f. omega arith), chain.first_low c h)

        old-in : (c : ℕ) → c < buckets → (c ≡ b → ⊥) → 0 < first' c → bucket' (first' c) ≡ c
        old-in c h n p =
            let e = first-old c h n in
            ap bucket' e ∙ bucket-old (first c) (chain.first_low c h) ∙ chain.first_in c h (omega arith)

        first-in : (c : ℕ) → c < buckets → Order c b → 0 < first' c → bucket' (first' c) ≡ c
        first-in c h (same e) p = ap bucket' (ap first' e ∙ first-new) ∙ bucket-new ∙ sym e
        first-in c h (less e) p = old-in c h (λ f. omega arith) p
        first-in c h (more e) p = old-in c h (λ f. omega arith) p

        old-last : (d : ℕ) → 0 < d → d < count → Order (bucket d) b → d ≤ first' (bucket d)
        old-last d h m (same e) = omega (arith, ap first' e, first-new)
        old-last d h m (less e) = omega (arith, first-old (bucket d) (low d m) (λ f. omega arith), chain.first_last d h m)
        old-last d h m (more e) = omega (arith, first-old (bucket d) (low d m) (λ f. omega arith), chain.first_last d h m)

        first-last : (d : ℕ) → 0 < d → d < suc count → Order d count → d ≤ first' (bucket' d)
        first-last d h m (less q) = rw (bucket-old d q) (old-last d h q (order (bucket d) b))
        first-last d h m (more q) = absurd (omega arith)
        first-last d h m (same q) = omega (arith, ap (λ (i : ℕ). first' (bucket' i)) q, ap first' bucket-new, first-new)

        next_low_lem : (i : ℕ) → 0 < i → i < suc count → Order i count → next' i < i
        next_low_lem i h m (less q) = omega (arith, next-old i q, chain.next_low i h q)
        next_low_lem i h m (more q) = absurd (omega arith)
        next_low_lem i h m (same q) = omega (arith, ap next' q, next-new, chain.first_low b inside)

        next-in : (i : ℕ) → 0 < i → i < suc count → Order i count → 0 < next' i → bucket' (next' i) ≡ bucket' i
        next-in i h m (less q) p =
            let e = next-old i q in
            let l = chain.next_low i h q in
            ap bucket' e ∙ bucket-old (next i) (omega arith) ∙ chain.next_in i h q (omega arith) ∙ sym (bucket-old i q)
        next-in i h m (more q) p = absurd (omega arith)
        next-in i h m (same q) p =
            let e = ap next' q ∙ next-new in
            ap bucket' e ∙ bucket-old (first b) (chain.first_low b inside) ∙ chain.first_in b inside (omega arith) ∙ sym (ap bucket' q ∙ bucket-new)

        next_last_lem : (i d : ℕ) → 0 < i → i < suc count → 0 < d → d < i → Order i count → bucket' d ≡ bucket' i → d ≤ next' i
        next_last_lem i d h m k l (less q) e = omega (arith, next-old i q, chain.next_last i d h q k l (sym (bucket-old d (omega arith)) ∙ e ∙ bucket-old i q))
        next_last_lem i d h m k l (more q) e = absurd (omega arith)
        next_last_lem i d h m k l (same q) e =
            let f : bucket d ≡ b = sym (bucket-old d (omega arith)) ∙ e ∙ ap bucket' q ∙ bucket-new in
            omega (arith, ap next' q, next-new, ap first f, chain.first_last d k (omega arith))

-- No entry yet.
pub chain-none : (buckets : ℕ) (bucket next first : ℕ → ℕ) → ((b : ℕ) → b < buckets → first b ≡ 0) → Chain buckets bucket next first 1
chain-none buckets bucket next first e =
    record {
      first_low = λ b h. omega (arith, e b h);
      first_in = λ b h p. absurd (omega (arith, e b h));
      first_last = λ d h m. absurd (omega arith);
      next_low = λ i h m. absurd (omega arith);
      next_in = λ i h m p. absurd (omega arith);
      next_last = λ i d h m k l f. absurd (omega arith);
    }
