-- The values that nodes stand for: a push, more links, a node's own value.
use Rattle.std.proofs.Common.{◌≡◌, ℕ, zero, suc, ◌+◌, ◌<◌, ◌≤◌, List, [], ◌∷◌, ◌++◌, length, map, get_or, refl, arith, ◌∙◌, ap, sym, All}
use Rattle.std.proofs.lemmas.Grind.{common_steps}
use Rattle.std.proofs.Math.ListN.{length-append}
use Rattle.rb_core.specs.declared.value.Value.{Value, Num, Con}
use Rattle.rb_values.specs.declared.nodes.Node.{Node}
use Rattle.rb_values.specs.declared.nodes.Node.TheVariants.{Number, Build}
use Rattle.rb_values.specs.Nodes.{at}
use Rattle.rb_values.specs.Linking.{children, node_value, values_from, IsLinkedBack, AreLinkedBack}

zero-right : (n : ℕ) → n + 0 ≡ n
zero-right n = omega arith

zero-left : (n : ℕ) → 0 + n ≡ n
zero-left n = omega arith

over-suc : (n m : ℕ) → n + suc m ≡ suc n + m
over-suc n m = omega arith

over-suc_left : (n m : ℕ) → suc n + m ≡ suc (n + m)
over-suc_left n m = omega arith

pub push : (links : List ℕ) (ns : List Node) (n : Node) (vs : List Value) →
    values_from links (ns ++ n ∷ []) vs ≡ values_from links ns vs ++ node_value links (values_from links ns vs) n ∷ []
push links [] n vs = refl
push links (m ∷ ns) n vs = push links ns n (vs ++ node_value links vs m ∷ [])

pub len : (links : List ℕ) (ns : List Node) (vs : List Value) → length (values_from links ns vs) ≡ length vs + length ns
len links [] vs = omega arith
len links (n ∷ ns) vs = let e = len links ns (vs ++ node_value links vs n ∷ []) in omega (arith, e, length-append vs (node_value links vs n ∷ []))

front : (vs : List Value) (v : Value) (i : ℕ) → i < length vs → at (vs ++ v ∷ []) i ≡ at vs i
front vs v i h = grind (arith, common_steps)

back : (vs : List Value) (v : Value) → at (vs ++ v ∷ []) (length vs) ≡ v
back [] v = refl
back (x ∷ vs) v = back vs v

pub kept : (links : List ℕ) (ns : List Node) (vs : List Value) (i : ℕ) → i < length vs → at (values_from links ns vs) i ≡ at vs i
kept links [] vs i h = refl
kept links (n ∷ ns) vs i h =
    let v : Value = node_value links vs n in
    let e = kept links ns (vs ++ v ∷ []) i (omega (arith, length-append vs (v ∷ []))) in e ∙ front vs v i h

children_same : (ws vs : List Value) (links : List ℕ) (low first n : ℕ) → ((i : ℕ) → i < low → at ws i ≡ at vs i) →
    ((j : ℕ) → j < n → get_or links (first + j) 0 < low) → children ws links first n ≡ children vs links first n
children_same ws vs links low first zero same below = refl
children_same ws vs links low first (suc n) same below =
    let b : get_or links first 0 < low = rw (zero-right first) at (below 0 (omega arith)) in
    let here = same (get_or links first 0) (omega (arith, b)) in
    let rest = children_same ws vs links low (suc first) n same (λ (j : ℕ) (h : j < n). rw (over-suc first j) at (below (suc j) (omega arith))) in cc

pub children-len : (vs : List Value) (links : List ℕ) (first n : ℕ) → length (children vs links first n) ≡ n
children-len vs links first zero = refl
children-len vs links first (suc n) = ap (λ m. suc m) (children-len vs links (suc first) n)

pub children-get : (vs : List Value) (links : List ℕ) (first n j : ℕ) → j < n → at (children vs links first n) j ≡ at vs (get_or links (first + j) 0)
children-get vs links first zero j h = absurd (omega arith)
children-get vs links first (suc n) zero h = rw (zero-right first) refl
children-get vs links first (suc n) (suc j) h = rw (over-suc first j) (children-get vs links (suc first) n j (omega arith))

children_more : (vs : List Value) (links more : List ℕ) (first n : ℕ) → first + n ≤ length links → children vs (links ++ more) first n ≡ children vs links first n
children_more vs links more first zero h = refl
children_more vs links more first (suc n) h =
    let here : get_or (links ++ more) first 0 ≡ get_or links first 0 = grind (arith, common_steps) in
    let rest = children_more vs links more (suc first) n (omega arith) in cc

link_at : (links ks : List ℕ) (j : ℕ) → get_or (links ++ ks) (length links + j) 0 ≡ get_or ks j 0
link_at [] ks j = ap (λ i. get_or ks i 0) (zero-left j)
link_at (l ∷ links) ks j = rw (over-suc_left (length links) j) (link_at links ks j)

children_from : (vs : List Value) (links ks : List ℕ) (first : ℕ) → ((j : ℕ) → j < length ks → get_or links (first + j) 0 ≡ get_or ks j 0) →
    children vs links first (length ks) ≡ map (at vs) ks
children_from vs links [] first h = refl
children_from vs links (k ∷ ks) first h =
    let here : get_or links first 0 ≡ k = rw (zero-right first) at (h 0 (omega arith)) in
    let rest = children_from vs links ks (suc first) (λ (j : ℕ) (b : j < length ks). rw (over-suc first j) at (h (suc j) (omega arith))) in cc

pub children-push : (vs : List Value) (links ks : List ℕ) → children vs (links ++ ks) (length links) (length ks) ≡ map (at vs) ks
children-push vs links ks = children_from vs (links ++ ks) ks (length links) (λ (j : ℕ) (b : j < length ks). link_at links ks j)

value_same : (ws vs : List Value) (links : List ℕ) (low : ℕ) (n : Node) → ((i : ℕ) → i < low → at ws i ≡ at vs i) →
    IsLinkedBack links low n → node_value links ws n ≡ node_value links vs n
value_same ws vs links low (Number n) same below = refl
value_same ws vs links low (Build k first count) same below = ap (Con k) (children_same ws vs links low first count same below.1)

value_more : (vs : List Value) (links more : List ℕ) (low : ℕ) (n : Node) → IsLinkedBack links low n → node_value (links ++ more) vs n ≡ node_value links vs n
value_more vs links more low (Number n) below = refl
value_more vs links more low (Build k first count) below = ap (Con k) (children_more vs links more first count below.0)

tail_below : (links : List ℕ) (low : ℕ) (n : Node) (ns : List Node) → AreLinkedBack links low (n ∷ ns) → AreLinkedBack links (low + 1) ns
tail_below links low n ns b i d h = let e : low + suc i ≡ low + 1 + i = omega arith in rw e at (b (suc i) d (omega arith))

-- the nodes stand for the same values after more links
pub more : (links new : List ℕ) (ns : List Node) (vs : List Value) (low : ℕ) → AreLinkedBack links low ns → values_from (links ++ new) ns vs ≡ values_from links ns vs
more links new [] vs low b = refl
more links new (n ∷ ns) vs low b =
    let e = value_more vs links new low n (rw (zero-right low) at (b 0 n (omega arith))) in
    let rest = more links new ns (vs ++ node_value links vs n ∷ []) (low + 1) (tail_below links low n ns b) in
    rw e rest

-- a node's value is made of those of the nodes that it names
pub node : (links : List ℕ) (ns : List Node) (vs : List Value) (i : ℕ) (d : Node) → AreLinkedBack links (length vs) ns → i < length ns →
    at (values_from links ns vs) (length vs + i) ≡ node_value links (values_from links ns vs) (get_or ns i d)
node links [] vs i d b h = absurd (omega arith)
node links (n ∷ ns) vs zero d b h =
    let v : Value = node_value links vs n in
    let all : List Value = values_from links ns (vs ++ v ∷ []) in
    let z : length vs + 0 ≡ length vs = omega arith in
    let here : IsLinkedBack links (length vs) n = rw z at (b 0 n (omega arith)) in
    let inside : length vs < length (vs ++ v ∷ []) = omega (arith, length-append vs (v ∷ [])) in
    let first = kept links ns (vs ++ v ∷ []) (length vs) inside in
    let same = value_same all vs links (length vs) n
    (λ (i : ℕ) (l : i < length vs). kept links ns (vs ++ v ∷ []) i (omega (arith, inside)) ∙ front vs v i l) here in
    rw z (first ∙ back vs v ∙ sym same)
node links (n ∷ ns) vs (suc i) d b h =
    let v : Value = node_value links vs n in
    let l : length (vs ++ v ∷ []) ≡ length vs + 1 = omega (arith, length-append vs (v ∷ [])) in
    let below : AreLinkedBack links (length (vs ++ v ∷ [])) ns = rw l (tail_below links (length vs) n ns b) in
    let rest = node links ns (vs ++ v ∷ []) i d below (omega arith) in
    let e : length vs + suc i ≡ length (vs ++ v ∷ []) + i = omega (arith, l) in rw e rest

below_more_links : (links new : List ℕ) (low : ℕ) (n : Node) → IsLinkedBack links low n → IsLinkedBack (links ++ new) low n
below_more_links links new low (Number n) b = tt
below_more_links links new low (Build k first count) b = (
  omega (arith, b.0, length-append links new),
  λ (j : ℕ) (h : j < count).
      let e : get_or (links ++ new) (first + j) 0 ≡ get_or links (first + j) 0 = let r = b.0 in grind (arith, common_steps) in rw e (b.1 j h),
)

pub all_below : (links : List ℕ) (ns : List Node) (n : Node) → AreLinkedBack links 0 ns → IsLinkedBack links (length ns) n → AreLinkedBack links 0 (ns ++ n ∷ [])
all_below links ns n b here i d h = grind (arith, common_steps, b i d, here)

pub still_below : (links new : List ℕ) (ns : List Node) → AreLinkedBack links 0 ns → AreLinkedBack (links ++ new) 0 ns
still_below links new ns b i d h = below_more_links links new (0 + i) (get_or ns i d) (b i d h)

pub length_is : (links : List ℕ) (ns : List Node) (vs : List Value) → values_from links ns [] ≡ vs → length vs ≡ length ns
length_is links ns vs e = rw (← e) (len links ns [] ∙ zero-left (length ns))

own : (links : List ℕ) (ns : List Node) (vs : List Value) (i : ℕ) (d : Node) → AreLinkedBack links 0 ns → values_from links ns [] ≡ vs → i < length vs →
    at vs i ≡ node_value links vs (get_or ns i d)
own links ns vs i d b e h =
    let l = length_is links ns vs e in
    let r : at (values_from links ns []) i ≡ node_value links (values_from links ns []) (get_or ns i d) = rw (zero-left i) at (node links ns [] i d b (omega (arith, l))) in
    rw e at r

pub number_at : (links : List ℕ) (ns : List Node) (vs : List Value) (i n : ℕ) (d : Node) → AreLinkedBack links 0 ns → values_from links ns [] ≡ vs → i < length vs →
    d ≡ get_or ns i d → d ≡ Number n → at vs i ≡ Num n
number_at links ns vs i n d b e h is that = let o = own links ns vs i d b e h in o ∙ ap (node_value links vs) (sym is ∙ that)

pub record HasKids (links : List ℕ) (vs : List Value) (i k first count : ℕ) : Type 0 where
  pub built : at vs i ≡ Con k (children vs links first count)
  pub within : first + count ≤ length links
  pub below : (j : ℕ) → j < count → get_or links (first + j) 0 < i

pub build_at : (links : List ℕ) (ns : List Node) (vs : List Value) (i k first count : ℕ) (d : Node) → AreLinkedBack links 0 ns → values_from links ns [] ≡ vs → i < length vs →
    d ≡ get_or ns i d → d ≡ Build k first count → HasKids links vs i k first count
build_at links ns vs i k first count d b e h is that =
    let o = own links ns vs i d b e h in
    let l = length_is links ns vs e in
    let here : IsLinkedBack links i (Build k first count) = rw (zero-left i, ← is, that) at (b i d (omega (arith, l))) in
    record { built = o ∙ ap (node_value links vs) (sym is ∙ that); within = here.0; below = here.1 }

all_at : (n : ℕ) (ks : List ℕ) → All (λ k. k < n) ks → (j : ℕ) → j < length ks → get_or ks j 0 < n
all_at n ks h j l = h j 0 l

-- a construction of earlier nodes
pub build_below : (links ks : List ℕ) (n k : ℕ) → All (λ k. k < n) ks → IsLinkedBack (links ++ ks) n (Build k (length links) (length ks))
build_below links ks n k h = (omega (arith, length-append links ks), λ (j : ℕ) (l : j < length ks). rw (link_at links ks j) (all_at n ks h j l))

pub build_pushed : (links ks : List ℕ) (ns : List Node) (vs : List Value) (k : ℕ) → AreLinkedBack links 0 ns → values_from links ns [] ≡ vs →
    values_from (links ++ ks) (ns ++ Build k (length links) (length ks) ∷ []) [] ≡ vs ++ Con k (map (at vs) ks) ∷ []
build_pushed links ks ns vs k b e =
    let m : values_from (links ++ ks) ns [] ≡ vs = more links ks ns [] 0 b ∙ e in
    let p = push (links ++ ks) ns (Build k (length links) (length ks)) [] in
    let q : values_from (links ++ ks) (ns ++ Build k (length links) (length ks) ∷ []) [] ≡ vs ++ Con k (children vs (links ++ ks) (length links) (length ks)) ∷ [] = rw m at p in
    q ∙ ap (λ (ws : List Value). vs ++ Con k ws ∷ []) (children-push vs links ks)

pub build_all_below : (links ks : List ℕ) (ns : List Node) (vs : List Value) (k : ℕ) → AreLinkedBack links 0 ns → values_from links ns [] ≡ vs → All (λ k. k < length vs) ks →
    AreLinkedBack (links ++ ks) 0 (ns ++ Build k (length links) (length ks) ∷ [])
build_all_below links ks ns vs k b e h =
    let l = length_is links ns vs e in
    all_below (links ++ ks) ns (Build k (length links) (length ks)) (still_below links ks ns b) (build_below links ks (length ns) k (rw l at h))
