-- Where each edge leads to a lower rank, no chain of edges comes back.
use Rattle.std.proofs.Common.{◌≡◌, ℕ, ◌+◌, ◌<◌, ◌≤◌, List, [], ◌∷◌, length, Bool, true, false, nat_lt, Option, Some, Result, Ok, Err, IfOk, refl, sym, ap, subst, ◌∙◌, arith}
use Rattle.std.specs.Prelude.{slice_get}
use Rattle.std.specs.Bool.{OnTrue}
use Rattle.std.proofs.lemmas.Bool.{ltb-true, ltb-false}
use Rattle.std.proofs.lemmas.Option.{slice_get_past}
use Rattle.rb_layout.specs.Cycles.{HasNoCycle, IsChain}
use Rattle.rb_layout.specs.Graphs.{edges_of, Leads, row_in}
use Rattle.rb_agree.specs.Graphs.{IsGraphOf}
use Rattle.rb_agree.specs.inner.Order.{RanksFall, RowFalls, rank_of}

-- edges of one more number
pub falls-next : (graph : List (List ℕ)) (ranks : List ℕ) (i t : ℕ) (row : List ℕ) → t ≡ i → row ≡ edges_of graph t → RowFalls ranks t row
    → ((t s : ℕ) → t < i → Leads graph t s → rank_of ranks s < rank_of ranks t) → (t s : ℕ) → t < i + 1 → Leads graph t s → rank_of ranks s < rank_of ranks t
falls-next graph ranks i n row is of here before t s lt leads = elim (nat_lt t i) as (λ (b : Bool). nat_lt t i ≡ b → rank_of ranks s < rank_of ranks t) [
  | true ↦ λ h. before t s (ltb-true t i h) leads
  | false ↦ λ h. let m = ltb-false t i h in
      let same : n ≡ t = omega (arith, m, lt, is) in
      subst (λ k. rank_of ranks s < rank_of ranks k) same
      (here leads.0 s (ap (λ (r : List ℕ). slice_get r leads.0) of ∙ ap (λ k. slice_get (edges_of graph k) leads.0) same ∙ leads.1))
] refl

none-at : (k s : ℕ) → ◌≡◌ {A = Option ℕ} (slice_get [] k) (Some s) → ⊥
none-at k s e = cc

-- numbers behind the last have no edges
pub falls-all : (graph : List (List ℕ)) (ranks : List ℕ) (i : ℕ) → length graph ≤ i
    → ((t s : ℕ) → t < i → Leads graph t s → rank_of ranks s < rank_of ranks t) → RanksFall graph ranks
falls-all graph ranks i all before t s leads = elim (nat_lt t i) as (λ (b : Bool). nat_lt t i ≡ b → rank_of ranks s < rank_of ranks t) [
  | true ↦ λ h. before t s (ltb-true t i h) leads
  | false ↦ λ h. let m = ltb-false t i h in
      absurd (none-at leads.0 s (sym (ap (λ (o : Option (List ℕ)). slice_get (row_in o) leads.0) (slice_get_past graph t (omega (arith, m, all)))) ∙ leads.1))
] refl

module _ (graph : List (List ℕ)) (ranks : List ℕ) (falls : RanksFall graph ranks) where
  chain-falls : (t : ℕ) (ts : List ℕ) (last : ℕ) → IsChain (Leads graph) t ts last → rank_of ranks last < rank_of ranks t
  chain-falls t [] last h = falls t last h
  chain-falls t (s ∷ ts) last h = let a = falls t s h.0 in let b = chain-falls s ts last h.1 in omega (arith, a, b)

  no-cycle : (t : ℕ) → HasNoCycle (Leads graph) t
  no-cycle t ts h = let a = chain-falls t ts t h in omega (arith, a)

pub none-cycle : (graph : List (List ℕ)) (ranks : List ℕ) (b : Bool) → OnTrue b (RanksFall graph ranks) → OnTrue b ((t : ℕ) → HasNoCycle (Leads graph) t)
none-cycle graph ranks true h = no-cycle graph ranks h
none-cycle graph ranks false h = h

-- a relation that is a graph's has its cycles
chain-of : (R S : ℕ → ℕ → Type 0) → ((t s : ℕ) → R t s → S t s) → (t : ℕ) (ts : List ℕ) (last : ℕ) → IsChain R t ts last → IsChain S t ts last
chain-of R S into t [] last h = into t last h
chain-of R S into t (s ∷ ts) last h = (into t s h.0, chain-of R S into s ts last h.1)

pub no-cycle-of : (R : ℕ → ℕ → Type 0) (graph : List (List ℕ)) (b : Bool) → IsGraphOf R graph → OnTrue b ((t : ℕ) → HasNoCycle (Leads graph) t) → OnTrue b ((t : ℕ) → HasNoCycle R t)
no-cycle-of R graph true is h = λ t ts cycle. h t ts (chain-of R (Leads graph) (λ a b r. (is a b).1 r) t ts t cycle)
no-cycle-of R graph false is h = h

-- the same graph as a slice
pub in-order : (slice graph : List (List ℕ)) (b : Bool) → slice ≡ graph → OnTrue b ((t : ℕ) → HasNoCycle (Leads slice) t) → OnTrue b ((t : ℕ) → HasNoCycle (Leads graph) t)
in-order slice graph b is h = subst (λ (g : List (List ℕ)). OnTrue b ((t : ℕ) → HasNoCycle (Leads g) t)) is h

pub found-order : {E : Type 0} (graph : List (List ℕ)) (ranks : List ℕ) (r : Result Bool E) → IfOk r (λ b. OnTrue b (RanksFall graph ranks)) → IfOk r (λ b. OnTrue b ((t : ℕ) → HasNoCycle (Leads graph) t))
found-order graph ranks (Ok b) h = none-cycle graph ranks b h
found-order graph ranks (Err e) h = h
