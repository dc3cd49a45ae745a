-- What is known follows, is shared, and holds behind each edge to a node.
use Rattle.std.proofs.Common.{◌≡◌, ℕ, ◌+◌, ◌<◌, ◌≤◌, ◌⊎◌, inl, inr, Bool, List, [], ◌∷◌, ◌++◌, take, length, get_or, Option, Some, refl, sym, subst, ap, ◌∙◌, arith, zero, suc}
use Rattle.std.specs.Prelude.{slice_get}
use Rattle.std.proofs.lemmas.Option.{same_Some}
use Rattle.rb_core.specs.declared.value.Value.{Value}
use Rattle.rb_core.specs.Values.{part_at}
use Rattle.rb_layout.specs.Positions.{layout_of}
use Rattle.rb_decide.proofs.Moving.{take-next}
use Rattle.rb_facts.specs.declared.knowledge.Known.{Known}
use Rattle.rb_facts.specs.declared.knowledge.Edge.{Edge}
use denote.Ref.{Bor}
use Rattle.rb_bytes.specs.Memory.{Memory}
use Rattle.rb_target.specs.Growth.{Keeps}
use Rattle.rb_fragment.specs.Plan.{Plan, Rep}
use Rattle.rb_fragment.proofs.Holds.{slots_at-kept}
use Rattle.rb_facts.specs.declared.knowledge.Known.TheVariants.{Leaf, Saved}
use Rattle.rb_facts.specs.declared.knowledge.Spot.{Spot}
use Rattle.rb_facts.specs.Knowing.{View, view_of, SpotsBelow, IsSaved, IsKnown, AreKnown, FollowsSaved, IsCommonKnowledge}
use Rattle.rb_facts.specs.inner.Knowing.{FollowsLeaf, IsShared, SharesKnown, IsMet}

-- an item of a list with one more
pub snoc-at : {A : Type 0} (xs : List A) (x y : A) (i : ℕ) → slice_get (xs ++ x ∷ []) i ≡ Some y → (slice_get xs i ≡ Some y) ⊎ (x ≡ y)
snoc-at [] x y zero e = inr (same_Some x y e)
snoc-at [] x y (suc i) e = absurd cc
snoc-at (z ∷ xs) x y zero e = inl e
snoc-at (z ∷ xs) x y (suc i) e = snoc-at xs x y i e

pub follows : (known : List Known) (i : ℕ) (at : Bor (List ℕ)) (u leaf t : ℕ) (position : List ℕ) → slice_get known i ≡ Some (Leaf at u leaf) → u ≡ t → at.now ≡ position → FollowsLeaf known t position leaf
follows known i q u leaf t position is ty path = λ at all.
    let h = all i (Leaf q u leaf) is in
    (h.0, h.1, ap (λ q. part_at at.value q) (sym path) ∙ h.2, ap (layout_of at.plan.layouts) (sym ty) ∙ h.3, h.4)

pub follows-saved : (known : List Known) (i spot k : ℕ) → slice_get known i ≡ Some (Saved spot) → spot ≡ k → FollowsSaved known k
follows-saved known i spot k is same = λ at all. subst (IsSaved at) same (all i (Saved spot) is)

pub shares-none : (known other : List Known) → SharesKnown known other []
shares-none known other = λ view either i x at. absurd cc

-- a fact that follows from the other list, too
pub is-shared : (known other : List Known) (i : ℕ) (x : Known) → slice_get known i ≡ Some x → ((at : View) → AreKnown at other → IsKnown at x) → IsShared known other x
is-shared known other i x at f = λ view either. elim either [ inl a ↦ a i x at | inr b ↦ f view b ]

pub shares-push : (known other both : List Known) (x : Known) → IsShared known other x → SharesKnown known other both → SharesKnown known other (both ++ x ∷ [])
shares-push known other both x shared s = λ view either j y e. elim (snoc-at both x y j e) [
  | inl k ↦ s view either j y k
  | inr is ↦ subst (IsKnown view) is (shared view either)
]

pub meets : (known : List Known) (edge : Edge) (node : ℕ) (both : List Known) → SharesKnown known edge.known both → IsMet (Some known) edge node (Some both)
meets known edge node both s = λ view either. s view (elim either [ inl a ↦ inl a | inr b ↦ inr b.1 ])

pub common-next : (edges : List Edge) (i : ℕ) (x : Edge) (node : ℕ) (found r : Option (List Known)) → i < length edges → x ≡ get_or edges i x
    → IsCommonKnowledge (take i edges) node found → IsMet found x node r → IsCommonKnowledge (take (i + 1) edges) node r
common-next edges i x node found r lt is c m = λ view e at leaf all.
    let here = ap (λ l. slice_get l at.0) (sym (take-next edges i x lt is)) ∙ at.1 in
    m view (elim (snoc-at (take i edges) x e at.0 here) [
      | inl k ↦ inl (c view e (at.0, k) leaf all)
      | inr same ↦ inr (ap (λ (y : Edge). y.hole.leaf) same ∙ leaf, subst (λ (y : Edge). AreKnown view y.known) (sym same) all)
    ])

-- facts on slots that are kept
pub known-kept : (n : ℕ) (plan : Plan) (clean : Bool) (v : Value) (spots : List Spot) (s s' : List ℕ) (m : Memory) → Keeps n s s' → SpotsBelow n spots → (known : List Known) → AreKnown (view_of plan clean v spots s m) known → AreKnown (view_of plan clean v spots s' m) known
known-kept n plan clean v spots s s' m k below known all i x at = go x (all i x at)
  where
    go : (x : Known) → IsKnown (view_of plan clean v spots s m) x → IsKnown (view_of plan clean v spots s' m) x
    go (Leaf q t l) h = h
    go (Saved j) h = (h.0, h.1, (h.2.0, h.2.1, subst (λ ws. Rep plan m clean h.0.ty h.2.0 ws) (sym (slots_at-kept n s s' h.0.slots (below j h.0 h.1) k)) h.2.2))

-- a list of one item
pub only-one : {A : Type 0} (xs : List A) (x : A) → 1 ≤ length xs → length xs < 2 → x ≡ get_or xs 0 x → xs ≡ x ∷ []
only-one [] x lo hi e = absurd (omega (arith, lo))
only-one (y ∷ []) x lo hi e = ap (λ z. z ∷ []) (sym e)
only-one (y ∷ z ∷ xs) x lo hi e = absurd (omega (arith, hi))

pub no-item : {A : Type 0} (xs : List A) → length xs < 1 → xs ≡ []
no-item [] lt = refl
no-item (x ∷ xs) lt = absurd (omega (arith, lt))
