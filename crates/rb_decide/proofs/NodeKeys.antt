-- Keys of nodes, and the numbers that are kept for them.
use Rattle.std.proofs.Common.{◌≡◌, ℕ, zero, suc, ◌<◌, List, [], ◌∷◌, ◌++◌, length, Bool, true, false, Option, Some, None, refl, sym, ap, ◌∙◌, arith, subst, ◌⊎◌, inl, inr}
use Rattle.std.specs.Prelude.{slice_get, if◌then◌else◌, cond}
use Rattle.std.specs.List.{AllByRecursion, flat_map}
use Rattle.std.specs.Map.{lookup}
use Rattle.std.specs.Str.{bytes_eq}
use Rattle.std.specs.Ordering.{is_eq, match_ordering}
use Rattle.std.specs.declared.cmp.Ordering.{Ordering}
use Rattle.std.specs.declared.cmp.Ordering.TheVariants.{Less, Equal, Greater}
use Rattle.std.specs.BTreeMap.{insert_entry}
use Rattle.std.specs.Cmp.Lexicographic.{same_text, other_text}
use Rattle.std.proofs.lemmas.Bool.{false≢true}
use Rattle.std.proofs.lemmas.List.{length-append}
use Rattle.rb_core.specs.declared.types.ConRef.{ConRef}
use Rattle.rb_matrix.specs.declared.matrix.Head.{Head}
use Rattle.rb_matrix.specs.declared.matrix.Head.TheVariants as H
use Rattle.rb_decide.specs.declared.decision_graph.GraphNode.{GraphNode}
use Rattle.rb_decide.specs.declared.decision_graph.GraphNode.TheVariants.{Test, Clause}
use Rattle.rb_decide.specs.declared.decision_graph.GraphArm.{GraphArm}
use Rattle.rb_decide.specs.declared.sharing.Sharing.{Sharing}
use Rattle.rb_decide.specs.Graphs.{links}
use Rattle.rb_decide.specs.inner.Sharing.{head_key, arm_key, other_key, node_key, number_at, SharingIsFine, AddsKey, IsAdded}
use Rattle.rb_decide.proofs.Unfolding.{get-left, get-last, grows-none}

-- other nodes have other keys -----------------------------------------------------------------------

same-front : (xs ys us vs : List ℕ) → length xs ≡ length ys → xs ++ us ≡ ys ++ vs → (xs ≡ ys) × (us ≡ vs)
same-front [] [] us vs e f = (refl, f)
same-front [] (y ∷ ys) us vs e f = absurd (omega (arith, e))
same-front (x ∷ xs) [] us vs e f = absurd (omega (arith, e))
same-front (x ∷ xs) (y ∷ ys) us vs e f =
    let first : x ≡ y = cc in
    let rest : xs ++ us ≡ ys ++ vs = cc in
    let h = same-front xs ys us vs (omega (arith, e)) rest in
    (ap (λ z. z ∷ xs) first ∙ ap (λ l. y ∷ l) h.0, h.1)

same-other : (o p : Option ℕ) (us vs : List ℕ) → other_key o ++ us ≡ other_key p ++ vs → (o ≡ p) × (us ≡ vs)
same-other None None us vs e = (refl, cc)
same-other None (Some j) us vs e = cc
same-other (Some i) None us vs e = cc
same-other (Some i) (Some j) us vs e = let same : i ≡ j = cc in (ap (λ n. Some n) same, cc)

same-con : (c d : ConRef) → c.ty ≡ d.ty → c.con ≡ d.con → c ≡ d
same-con c d e f =
    let a : record { ty = c.ty; con = c.con } ≡ record { ty = d.ty; con = c.con } = ap (λ t. record { ty = t; con = c.con }) e in
    let b : record { ty = d.ty; con = c.con } ≡ record { ty = d.ty; con = d.con } = ap (λ k. record { ty = d.ty; con = k }) f in
    a ∙ b

same-head : (g h : Head) (i j : ℕ) (us vs : List ℕ) → (head_key g ++ i ∷ []) ++ us ≡ (head_key h ++ j ∷ []) ++ vs → (g ≡ h) × (i ≡ j) × (us ≡ vs)
same-head (H.Num m) (H.Num n) i j us vs e = let same : m ≡ n = cc in (ap (λ k. H.Num k) same, cc, cc)
same-head (H.Num m) (H.Con d) i j us vs e = cc
same-head (H.Con c) (H.Num n) i j us vs e = cc
same-head (H.Con c) (H.Con d) i j us vs e =
    let t : c.ty ≡ d.ty = cc in let k : c.con ≡ d.con = cc in (ap (λ x. H.Con x) (same-con c d t k), cc, cc)

some-head : (h : Head) (j : ℕ) (vs : List ℕ) → [] ≡ (head_key h ++ j ∷ []) ++ vs → ⊥
some-head (H.Num n) j vs e = cc
some-head (H.Con d) j vs e = cc

same-arm : (a b : GraphArm) → a.head ≡ b.head → a.under ≡ b.under → a ≡ b
same-arm a b e f =
    let x : record { head = a.head; under = a.under } ≡ record { head = b.head; under = a.under } = ap (λ h. record { head = h; under = a.under }) e in
    let y : record { head = b.head; under = a.under } ≡ record { head = b.head; under = b.under } = ap (λ u. record { head = b.head; under = u }) f in
    x ∙ y

same-arms : (as' bs : List GraphArm) → flat_map arm_key as' ≡ flat_map arm_key bs → as' ≡ bs
same-arms [] [] e = refl
same-arms [] (b ∷ bs) e = absurd (some-head b.head b.under (flat_map arm_key bs) e)
same-arms (a ∷ as') [] e = absurd (some-head a.head a.under (flat_map arm_key as') (sym e))
same-arms (a ∷ as') (b ∷ bs) e = let h = same-head a.head b.head a.under b.under (flat_map arm_key as') (flat_map arm_key bs) e in
    ap (λ x. x ∷ as') (same-arm a b h.0 h.1) ∙ ap (λ l. b ∷ l) (same-arms as' bs h.2)

pub same-node : (n m : GraphNode) → node_key n ≡ node_key m → n ≡ m
same-node (Test q as' o) (Test r bs p) e =
    let len : length q ≡ length r = cc in
    let rest : q ++ (other_key o ++ flat_map arm_key as') ≡ r ++ (other_key p ++ flat_map arm_key bs) = cc in
    let a = same-front q r (other_key o ++ flat_map arm_key as') (other_key p ++ flat_map arm_key bs) len rest in
    let b = same-other o p (flat_map arm_key as') (flat_map arm_key bs) a.1 in
    ap (λ x. Test x as' o) a.0 ∙ ap (λ x. Test r x o) (same-arms as' bs b.1) ∙ ap (λ x. Test r bs x) b.0
same-node (Test q as' o) (Clause k) e = cc
same-node (Clause k) (Test q as' o) e = cc
same-node (Clause k) (Clause j) e = let same : k ≡ j = cc in ap (λ n. Clause n) same

-- the map of keys -----------------------------------------------------------------------------------

pub lookup-same : {K X : Type 0} (f g : K → Bool) → ((k : K) → f k ≡ g k) → (es : List (K × X)) → lookup f es ≡ lookup g es
lookup-same f g same [] = refl
lookup-same f g same (e ∷ es) = ap (λ b. cond b (Some e.1) (lookup f es)) (same e.0) ∙ ap (λ o. cond (g e.0) (Some e.1) o) (lookup-same f g same es)

bytes-self : (xs : List ℕ) → bytes_eq xs xs ≡ true
bytes-self xs = by (bytes_eq xs xs) refl
  where
    by : (b : Bool) → bytes_eq xs xs ≡ b → b ≡ true
    by true e = refl
    by false e = absurd (other_text xs xs (sym e) refl)

bytes-same : (xs ys : List ℕ) → bytes_eq xs ys ≡ true → xs ≡ ys
bytes-same xs ys e = same_text xs ys (sym e)

module _ {K X : Type 0} (text : K → List ℕ) (cmp : K → K → Ordering) (same : (x y : K) → is_eq (cmp x y) ≡ bytes_eq (text x) (text y)) where
  abbrev found : List ℕ → List (K × X) → Option X
  found q es = lookup (λ k. bytes_eq q (text k)) es

  pub lookup-inserted : (key : K) (v : X) (q : List ℕ) (es : List (K × X)) → found q (insert_entry cmp es key v) ≡ (if bytes_eq q (text key) then Some v else found q es)
  lookup-inserted key v q [] = by (bytes_eq q (text key))
    where
      by : (b : Bool) → cond b (Some v) None ≡ (if b then Some v else None)
      by true = refl
      by false = refl
  lookup-inserted key v q (e ∷ es) = at (cmp key e.0) refl (lookup-inserted key v q es)
    where
      less : (b : Bool) → cond b (Some v) (found q (e ∷ es)) ≡ (if b then Some v else found q (e ∷ es))
      less true = refl
      less false = refl

      equal : (b c : Bool) → c ≡ b → cond c (Some v) (found q es) ≡ (if b then Some v else cond c (Some e.1) (found q es))
      equal true true f = refl
      equal true false f = absurd (false≢true f)
      equal false true f = absurd (false≢true (sym f))
      equal false false f = refl

      more : (b c : Bool) → bytes_eq q (text key) ≡ b → bytes_eq q (text e.0) ≡ c → bytes_eq (text key) (text e.0) ≡ false
          → found q (insert_entry cmp es key v) ≡ (if bytes_eq q (text key) then Some v else found q es)
          → cond c (Some e.1) (found q (insert_entry cmp es key v)) ≡ (if b then Some v else cond c (Some e.1) (found q es))
      more true true f g off rest = absurd (false≢true (sym off ∙ ap (λ x. bytes_eq x (text e.0)) (sym (bytes-same q (text key) f)) ∙ g))
      more false true f g off rest = refl
      more b false f g off rest = rest ∙ ap (λ c. if c then Some v else found q es) f

      at : (o : Ordering) → cmp key e.0 ≡ o → found q (insert_entry cmp es key v) ≡ (if bytes_eq q (text key) then Some v else found q es)
          → found q (match_ordering o ((key, v) ∷ e ∷ es) ((e.0, v) ∷ es) (e ∷ insert_entry cmp es key v))
          ≡ (if bytes_eq q (text key) then Some v else found q (e ∷ es))
      at Less f rest = less (bytes_eq q (text key))
      at Equal f rest = let one = bytes-same (text key) (text e.0) (sym (same key e.0) ∙ ap is_eq f) in
          equal (bytes_eq q (text key)) (bytes_eq q (text e.0)) (ap (bytes_eq q) (sym one))
      at Greater f rest = more (bytes_eq q (text key)) (bytes_eq q (text e.0)) refl refl (sym (same key e.0) ∙ ap is_eq f) rest

-- nodes with their numbers --------------------------------------------------------------------------

none≢some : {A : Type 0} (x : A) → None ≡ Some x → ⊥
none≢some x e = cc

pub none-fine : (s : Sharing) → s.nodes ≡ [] → s.numbers.entries ≡ [] → SharingIsFine s
none-fine s e f = record {
  lower = λ i n h. absurd (none≢some n (sym (ap (λ l. slice_get l i) e) ∙ h));
  known = λ i n h. absurd (none≢some n (sym (ap (λ l. slice_get l i) e) ∙ h));
  sound = λ key i h. absurd (none≢some i (sym (ap (lookup (λ k. bytes_eq key k.items)) f) ∙ h));
}

-- an item of a longer list
pub last-or : {A : Type 0} (xs : List A) (x y : A) (i : ℕ) → slice_get (xs ++ x ∷ []) i ≡ Some y → (slice_get xs i ≡ Some y) ⊎ ((i ≡ length xs) × (x ≡ y))
last-or [] x y zero e = inr (refl, cc)
last-or [] x y (suc i) e = cc
last-or (z ∷ xs) x y zero e = inl e
last-or (z ∷ xs) x y (suc i) e = elim (last-or xs x y i e) [
  | inl h ↦ inl h
  | inr h ↦ inr (ap suc h.0, h.1)
]

pub pushed-fine : (old new : Sharing) (node : GraphNode) → SharingIsFine old → AllByRecursion (λ j. j < length old.nodes) (links node) → number_at old (node_key node) ≡ None
    → new.nodes ≡ old.nodes ++ node ∷ [] → AddsKey old new (node_key node) (length old.nodes) → SharingIsFine new
pushed-fine old new node f low none nodes adds = record { lower = lower; known = known; sound = sound }
  where
    at : (i : ℕ) (n : GraphNode) → slice_get new.nodes i ≡ Some n → (slice_get old.nodes i ≡ Some n) ⊎ ((i ≡ length old.nodes) × (node ≡ n))
    at i n e = last-or old.nodes node n i (sym (ap (λ l. slice_get l i) nodes) ∙ e)

    lower : (i : ℕ) (n : GraphNode) → slice_get new.nodes i ≡ Some n → AllByRecursion (λ j. j < i) (links n)
    lower i n e = elim (at i n e) [
      | inl h ↦ f.lower i n h
      | inr h ↦ subst (λ k. AllByRecursion (λ j. j < k) (links n)) (sym h.0) (subst (λ m. AllByRecursion (λ j. j < length old.nodes) (links m)) h.1 low)
    ]

    older : (i : ℕ) (n : GraphNode) → slice_get old.nodes i ≡ Some n → (b : Bool) → bytes_eq (node_key n) (node_key node) ≡ b → (if b then Some (length old.nodes) else number_at old (node_key n)) ≡ Some i
    older i n h true e = absurd (none≢some i (sym none ∙ ap (number_at old) (sym (bytes-same (node_key n) (node_key node) e)) ∙ f.known i n h))
    older i n h false e = f.known i n h

    known : (i : ℕ) (n : GraphNode) → slice_get new.nodes i ≡ Some n → number_at new (node_key n) ≡ Some i
    known i n e = elim (at i n e) [
      | inl h ↦ adds (node_key n) ∙ older i n h (bytes_eq (node_key n) (node_key node)) refl
      | inr h ↦ adds (node_key n) ∙ ap (λ b. if b then Some (length old.nodes) else number_at old (node_key n))
          (ap (λ m. bytes_eq (node_key n) (node_key m)) h.1 ∙ bytes-self (node_key n)) ∙ ap (λ k. Some k) (sym h.0)
    ]

    sound : (key : List ℕ) (i : ℕ) → number_at new key ≡ Some i → (n : GraphNode) × (slice_get new.nodes i ≡ Some n) × (node_key n ≡ key)
    sound key i e = by (bytes_eq key (node_key node)) refl (sym (adds key) ∙ e)
      where
        by : (b : Bool) → bytes_eq key (node_key node) ≡ b → (if b then Some (length old.nodes) else number_at old key) ≡ Some i → (n : GraphNode) × (slice_get new.nodes i ≡ Some n) × (node_key n ≡ key)
        by true g h = let same : length old.nodes ≡ i = cc in
            (node, ap (λ l. slice_get l i) nodes ∙ ap (slice_get (old.nodes ++ node ∷ [])) (sym same) ∙ get-last old.nodes [] node, sym (bytes-same key (node_key node) g))
        by false g h = let s = f.sound key i h in
            (s.0, ap (λ l. slice_get l i) nodes ∙ get-left old.nodes (node ∷ []) i s.0 s.1, s.2)

pub pushed-added : (old new : Sharing) (node : GraphNode) (i : ℕ) → SharingIsFine old → AllByRecursion (λ j. j < length old.nodes) (links node) → number_at old (node_key node) ≡ None
    → i ≡ length old.nodes → new.nodes ≡ old.nodes ++ node ∷ [] → AddsKey old new (node_key node) i → IsAdded old new node i
pushed-added old new node i f low none is nodes adds = record {
  fine = pushed-fine old new node f low none nodes (subst (AddsKey old new (node_key node)) is adds);
  grown = (node ∷ [], nodes);
  there = ap (λ l. slice_get l i) nodes ∙ ap (slice_get (old.nodes ++ node ∷ [])) is ∙ get-last old.nodes [] node;
  alone = λ k le lt. let a = ap length nodes ∙ length-append old.nodes (node ∷ []) in omega (arith, a, is, le, lt);
}

pub found-added : (s : Sharing) (node : GraphNode) (i : ℕ) → SharingIsFine s → number_at s (node_key node) ≡ Some i → IsAdded s s node i
found-added s node i f e = let h = f.sound (node_key node) i e in record {
  fine = f;
  grown = grows-none s;
  there = h.1 ∙ ap (λ n. Some n) (same-node h.0 node h.2);
  alone = λ k le lt. absurd (omega (arith, le, lt));
}
