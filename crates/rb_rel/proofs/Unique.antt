-- Two values of one type that the same words represent are equal.
use Rattle.std.proofs.Common.{◌≡◌, ℕ, zero, suc, ◌+◌, ◌-◌, ◌<◌, ◌≤◌, length, List, [], ◌∷◌, Bool, true, Option, Some, None, refl, sym, subst, ap, ◌∙◌, arith}
use Rattle.std.specs.Prelude.{slice_get, slice_index}
use Rattle.std.specs.Int.{bit_at}
use Rattle.std.proofs.lemmas.Option.{same_Some, slice_get_within}
use Rattle.rb_core.specs.declared.value.Value.{Value, Num}
use Rattle.rb_core.specs.declared.types.Ty.{Ty}
use Rattle.rb_core.specs.declared.types.Ty.TheVariants.{Int, Named}
use Rattle.rb_core.specs.declared.types.DataDecl.{DataDecl}
use Rattle.rb_core.specs.Matching.{matches_of}
use Rattle.rb_bits.specs.Words.{take_of}
use Rattle.rb_bits.proofs.WordLemmas.{bit_at_take}
use Rattle.rb_bytes.specs.Memory.{Memory, IsGood, load_of}
use Rattle.rb_layout.specs.declared.layout.Leaf.{Leaf}
use Rattle.rb_layout.specs.declared.layout.Block.{Block}
use Rattle.rb_layout.specs.declared.layout.FlatWord.{FlatWord}
use Rattle.rb_layout.specs.declared.layout.Part.{Part}
use Rattle.rb_layout.specs.declared.layout.Kind.{Kind}
use Rattle.rb_layout.specs.declared.layout.Layout.{Layout}
use Rattle.rb_layout.specs.declared.layout.WordRef.{WordRef}
use Rattle.rb_layout.specs.Positions.{Open, open_positions, opens_of}
use Rattle.rb_layout.specs.Words.{words_in, words_of_block, flat_at, begins_at}
use Rattle.rb_rel.specs.Relation.{HoldsKind, IsFound, LeafStands, Made, Represents, number, built}
use Rattle.rb_rel.specs.Reading.{walk}
use Rattle.rb_rel.proofs.Lawful.{Lawful, Holder, units_of}
use Rattle.rb_layout.specs.Flat.{IsFlat, IsAbove}
use Rattle.std.proofs.lemmas.Nat.Bits.{same_from_bits_below}
use Rattle.rb_rel.proofs.Represented.{Opened, opened, Represents-int, Represents-count}
use Rattle.rb_rel.proofs.Leading.{leads_made}
use Rattle.rb_rel.proofs.Opens.{fixes}
use Rattle.rb_rel.proofs.Leaves.{leaf_matches}

same_items : (xs ys : List ℕ) → length xs ≡ length ys → ((i : ℕ) → i < length xs → slice_index xs i ≡ slice_index ys i) → xs ≡ ys
same_items [] [] e h = refl
same_items [] (y ∷ ys) e h = absurd (omega arith)
same_items (x ∷ xs) [] e h = absurd (omega arith)
same_items (x ∷ xs) (y ∷ ys) e h =
    let a : x ≡ y = h 0 (omega arith) in
    let b : xs ≡ ys = same_items xs ys (omega arith) (λ i lt. h (suc i) (omega arith)) in cc

-- two lists agree on a unit
abbrev Agree : Ty → List ℕ → List ℕ → ℕ → Type 0
Agree (Int bits) ws ws' i = bit_at (slice_index ws 0) i ≡ bit_at (slice_index ws' 0) i
Agree (Named t) ws ws' i = slice_index ws i ≡ slice_index ws' i

cons_same : (x y : ℕ) → x ∷ [] ≡ y ∷ [] → x ≡ y
cons_same x y e = ap (λ ws. slice_index ws 0) e

-- two placings of one leaf over the same words
module _ (leaf : Leaf) (flat : IsFlat leaf) (ws : List ℕ) (m : Memory) (clean : Bool) (subs subs' : List ℕ → List ℕ) (ats ats' : ℕ → ℕ)
    (p : LeafStands leaf ws m clean subs ats) (p' : LeafStands leaf ws m clean subs' ats') where
  abbrev SameAt : Option ℕ → Type 0
  SameAt None = Unit {0}
  SameAt (Some b) = ats b ≡ ats' b

  found_same : (b : Option ℕ) (fs : List FlatWord) (f : FlatWord) (j w w' : ℕ) → SameAt b
      → IsFound b fs f j ws ats m w → IsFound b fs f j ws ats' m w' → w ≡ w'
  found_same None fs f j w w' s e e' = same_Some _ _ (sym e ∙ e')
  found_same (Some b) fs f j w w' s e e' = let h = sym e ∙ ap (λ a. load_of m a (begins_at fs j) f.width) s ∙ e' in cc

  -- a part says the same of both
  kinds_same : (r : WordRef) (f : FlatWord) (k : ℕ) (x : Part) → flat_at leaf r ≡ Some f → slice_get f.parts k ≡ Some x → SameAt r.block
      → (n : ℕ) × HoldsKind subs ats n x.l x.kind × HoldsKind subs' ats' n x.l x.kind
  kinds_same r f k x is at s =
      let a = p.words r f is in
      let b = p'.words r f is in
      let w = found_same r.block (words_in leaf r.block) f r.word a.0 b.0 s a.1 b.1 in
      (take_of a.0 x.o x.l, a.2.parts k x at, subst (λ y. HoldsKind subs' ats' (take_of y x.o x.l) x.l x.kind) (sym w) (b.2.parts k x at))

  -- the block of a reference exists
  abbrev Exists : Option ℕ → Type 0
  Exists None = Unit {0}
  Exists (Some b) = (block : Block) × (slice_get leaf.blocks b ≡ Some block)

  some_block : (b : ℕ) (x : Option Block) (j : ℕ) (f : FlatWord) → slice_get leaf.blocks b ≡ x → slice_get (words_of_block x) j ≡ Some f → (block : Block) × (slice_get leaf.blocks b ≡ Some block)
  some_block b None j f is e = absurd cc
  some_block b (Some block) j f is e = (block, is)

  exists_in : (b : Option ℕ) (j : ℕ) (f : FlatWord) → slice_get (words_in leaf b) j ≡ Some f → Exists b
  exists_in None j f e = tt
  exists_in (Some b) j f e = some_block b (slice_get leaf.blocks b) j f refl e

  outer : (r : Option ℕ) (n b : ℕ) → length leaf.blocks ≤ suc n + b → IsAbove r b → ((a : ℕ) → b < a → (block : Block) → slice_get leaf.blocks a ≡ Some block → ats a ≡ ats' a) → Exists r → SameAt r
  outer None n b le o rest x = tt
  outer (Some a) n b le o rest x = rest a o x.0 x.1

  outer' : (r : Option ℕ) → ((b : ℕ) (block : Block) → slice_get leaf.blocks b ≡ Some block → ats b ≡ ats' b) → Exists r → SameAt r
  outer' None rest x = tt
  outer' (Some a) rest x = rest a x.0 x.1

  -- from the outer blocks to the inner ones
  ats_from : (n b : ℕ) (block : Block) → length leaf.blocks ≤ n + b → slice_get leaf.blocks b ≡ Some block → ats b ≡ ats' b
  ats_from zero b block le is = absurd (let lt = slice_get_within leaf.blocks b block is in omega arith)
  ats_from (suc n) b block le is =
      let q = flat.pointed b block is in
      let h = kinds_same q.0 q.2.word q.2.number q.2.part q.2.is_word q.2.is_part (outer q.0.block n b le q.3 (λ a lt bl e. ats_from n a bl (omega arith) e) (exists_in q.0.block q.0.word q.2.word q.2.is_word)) in
      let x = subst (λ (k : Kind). HoldsKind subs ats h.0 q.2.part.l k) q.2.is_pointer h.1 in
      let y = subst (λ (k : Kind). HoldsKind subs' ats' h.0 q.2.part.l k) q.2.is_pointer h.2 in
      sym x ∙ y

  all_ats : (b : ℕ) (block : Block) → slice_get leaf.blocks b ≡ Some block → ats b ≡ ats' b
  all_ats b block is = ats_from (length leaf.blocks) b block (omega arith) is

  same_at : (r : WordRef) (f : FlatWord) → flat_at leaf r ≡ Some f → SameAt r.block
  same_at r f is = outer' r.block all_ats (exists_in r.block r.word f is)

  module _ (path : List ℕ) where
    bit_same : (bits i : ℕ) → Holder leaf (Int bits) path i → bit_at (slice_index (subs path) 0) i ≡ bit_at (slice_index (subs' path) 0) i
    bit_same bits i h =
        let x = h in
        let k = kinds_same x.ref x.word x.number x.part x.is_word x.is_part (same_at x.ref x.word x.is_word) in
        let a = x.is_holder.0 in
        let u : k.0 ≡ take_of (slice_index (subs path) 0) a x.part.l = subst (λ (y : Kind). HoldsKind subs ats k.0 x.part.l y) x.is_holder.1 k.1 in
        let v : k.0 ≡ take_of (slice_index (subs' path) 0) a x.part.l = subst (λ (y : Kind). HoldsKind subs' ats' k.0 x.part.l y) x.is_holder.1 k.2 in
        let in_range : i - a < x.part.l = omega (arith, x.is_holder.2, x.is_holder.3) in
        let at : a + (i - a) ≡ i = omega (arith, x.is_holder.2) in
        ap (bit_at (slice_index (subs path) 0)) (sym at) ∙ sym (bit_at_take (slice_index (subs path) 0) a x.part.l (i - a) in_range)
        ∙ ap (λ y. bit_at y (i - a)) (sym u ∙ v)
        ∙ bit_at_take (slice_index (subs' path) 0) a x.part.l (i - a) in_range ∙ ap (bit_at (slice_index (subs' path) 0)) at

    word_same : (t i : ℕ) → Holder leaf (Named t) path i → slice_index (subs path) i ≡ slice_index (subs' path) i
    word_same t i h =
        let x = h in
        let k = kinds_same x.ref x.word x.number x.part x.is_word x.is_part (same_at x.ref x.word x.is_word) in
        let u : k.0 ≡ slice_index (subs path) i = subst (λ (y : Kind). HoldsKind subs ats k.0 x.part.l y) x.is_holder k.1 in
        let v : k.0 ≡ slice_index (subs' path) i = subst (λ (y : Kind). HoldsKind subs' ats' k.0 x.part.l y) x.is_holder k.2 in
        sym u ∙ v

    agree_at : (ty : Ty) (i : ℕ) → Holder leaf ty path i → Agree ty (subs path) (subs' path) i
    agree_at (Int bits) i h = bit_same bits i h
    agree_at (Named t) i h = word_same t i h

module _ (types : List DataDecl) (layouts : List Layout) (m : Memory) (clean : Bool) (good : IsGood m) (lawful : Lawful types layouts) where
  -- the leaf of a value matches it
  prov_matches : (t : ℕ) (v : Value) (ws : List ℕ) (d : Made types layouts m clean t v ws) → matches_of d.leaf.prov v ≡ true
  prov_matches t v ws d = leaf_matches d.layout.leaves v 0 d.number d.leaf d.is_leaf d.number (omega arith) d.is_number

  -- the words of an open position are the same
  words_at : (ty : Ty) (v v' : Value) (ws ws' : List ℕ) → Represents types layouts m clean ty v ws → Represents types layouts m clean ty v' ws'
      → ((i : ℕ) → i < units_of layouts ty → Agree ty ws ws' i) → ws ≡ ws'
  words_at (Int bits) v v' ws ws' r r' h =
      let a = Represents-int types layouts m clean bits v ws r in
      let b = Represents-int types layouts m clean bits v' ws' r' in
      let e : a.0 ≡ b.0 = same_from_bits_below bits a.0 b.0 a.3 b.3 (λ i lt. ap (λ w. bit_at (slice_index w 0) i) (sym a.2) ∙ h i lt ∙ ap (λ w. bit_at (slice_index w 0) i) b.2) in
      a.2 ∙ ap (λ n. n ∷ []) e ∙ sym b.2
  words_at (Named t) v v' ws ws' r r' h =
      let l = Represents-count types layouts m clean r in
      let l' = Represents-count types layouts m clean r' in
      same_items ws ws' (l ∙ sym l') (λ i lt. h i (subst (λ n. i < n) l lt))

  -- the same leaf for both
  two : (t : ℕ) (v v' : Value) (ws : List ℕ) (o : Opened types layouts m clean t v ws) (o' : Opened types layouts m clean t v' ws) → o'.made.leaf ≡ o.made.leaf
  two t v v' ws o o' =
      let d = o.made in
      let d' = o'.made in
      let same : d'.layout ≡ d.layout = same_Some _ _ (sym d'.is_layout ∙ d.is_layout) in
      let w = leads_made types layouts m clean good lawful t v ws o in
      let w' = leads_made types layouts m clean good lawful t v' ws o' in
      let n : d'.number ≡ d.number = same_Some _ _ (sym w' ∙ ap (λ (x : Layout). walk x.tree ws m) same ∙ w) in
      same_Some _ _ (sym d'.is_number ∙ ap (λ (x : Layout). slice_get x.leaves d'.number) same ∙ ap (λ k. slice_get d.layout.leaves k) n ∙ d.is_number)

  pub unique : {ty : Ty} {v : Value} {ws : List ℕ} → Represents types layouts m clean ty v ws → (v' : Value) → Represents types layouts m clean ty v' ws → v ≡ v'
  unique (number bits x lt) v' r' =
      let b = Represents-int types layouts m clean bits v' (x ∷ []) r' in
      let e : x ≡ b.0 = cons_same x b.0 b.2 in ap Num e ∙ sym b.1
  unique (built t v ws d below) v' r' =
      let o' = opened types layouts m clean r' in
      let d' = o'.made in
      let leaf = two t v v' ws (record { made = d; below = below }) o' in
      let is_flat = lawful.flat t d.layout d.number d.leaf d.is_layout d.is_number in
      let p' : LeafStands d.leaf ws m clean d'.subs d'.ats = subst (λ (x : Leaf). LeafStands x ws m clean d'.subs d'.ats) leaf d'.placed in
      let at' : (k : ℕ) (q : Open) → slice_get (open_positions types d.leaf.prov) k ≡ Some q → slice_get (open_positions types d'.leaf.prov) k ≡ Some q
      = λ k q e. ap (λ (x : Leaf). slice_get (open_positions types x.prov) k) leaf ∙ e in
      let root = ap (λ (ty : Ty). opens_of types d.leaf.prov ty) (sym (lawful.provenances.root t d.layout d.number d.leaf d.is_layout d.is_number)) in
      fixes types d.leaf.prov (Named t) v v' (lawful.provenances.fits t d.layout d.number d.leaf d.is_layout d.is_number) (prov_matches t v ws d)
      (ap (λ (x : Leaf). matches_of x.prov v') (sym leaf) ∙ prov_matches t v' ws d')
      (λ k q e0.
      let e : slice_get (open_positions types d.leaf.prov) k ≡ Some q = ap (λ (os : List Open). slice_get os k) (sym root) ∙ e0 in
      let r1 = below k q e in
      let r2 = o'.below k q (at' k q e) in
      let words : d.subs q.path ≡ d'.subs q.path = words_at q.ty (d.at q.path) (d'.at q.path) (d.subs q.path) (d'.subs q.path) r1 r2
      (λ i lt. agree_at d.leaf is_flat ws m clean d.subs d'.subs d.ats d'.ats d.placed p' q.path q.ty i
      (lawful.all_held t d.layout d.number d.leaf d.is_layout d.is_number k q i e lt)) in
      let u : d.at q.path ≡ d'.at q.path = unique (below k q e) (d'.at q.path) (subst (λ (w : List ℕ). Represents types layouts m clean q.ty (d'.at q.path) w) (sym words) r2) in
      d.is_at k q e ∙ ap Some u ∙ sym (d'.is_at k q (at' k q e)))
