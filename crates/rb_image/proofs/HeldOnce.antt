-- A unit that is held once has one part that holds it.
use Rattle.std.proofs.Common.{◌≡◌, ℕ, zero, suc, ◌+◌, ◌<◌, ◌≤◌, ◌==◌, ◌&&◌, sum, map, List, [], ◌∷◌, true, Option, Some, None, refl, sym, ap, ◌∙◌, arith}
use Rattle.std.specs.Prelude.{slice_get, leb, ltb, if◌then◌else◌}
use Rattle.std.proofs.lemmas.Grind.{common_steps}
use Rattle.std.proofs.lemmas.Option.{same_Some}
use Rattle.rb_core.specs.declared.types.Ty.{Ty}
use Rattle.rb_core.specs.declared.types.Ty.TheVariants.{Int, Named}
use Rattle.rb_layout.specs.A6.{holds_unit, times_in_part, times_in_word, times_in_block, times_held}
use Rattle.rb_layout.specs.declared.layout.Block.{Block}
use Rattle.rb_layout.specs.declared.layout.FlatWord.{FlatWord}
use Rattle.rb_layout.specs.declared.layout.Kind.{Kind}
use Rattle.rb_layout.specs.declared.layout.Kind.TheVariants.{Bits, Word}
use Rattle.rb_layout.specs.declared.layout.Leaf.{Leaf}
use Rattle.rb_layout.specs.declared.layout.Part.{Part}
use Rattle.rb_layout.specs.declared.layout.WordRef.{WordRef}
use Rattle.rb_layout.specs.Flattening.{same_path}
use Rattle.rb_layout.specs.Words.{words_in, words_of_block, flat_at}
use Rattle.rb_rel.proofs.Lists.{and_true}

-- Sums ---------------------------------------------------------------------------------------
sum_first : (n : ℕ) (ns : List ℕ) → sum (n ∷ ns) ≡ n + sum ns
sum_first n ns = grind (arith, common_steps)

module _ {A : Type 0} (f : A → ℕ) where
  at_least : (xs : List A) (i : ℕ) (x : A) → slice_get xs i ≡ Some x → f x ≤ sum (map f xs)
  at_least [] i x e = absurd cc
  at_least (y ∷ xs) zero x e = let s = sum_first (f y) (map f xs) in let same = ap f (same_Some y x e) in omega (arith, s, same)
  at_least (y ∷ xs) (suc i) x e = let s = sum_first (f y) (map f xs) in let a = at_least xs i x e in omega (arith, s, a)

  one_place : (xs : List A) → sum (map f xs) ≤ 1 → (i j : ℕ) (x y : A) → slice_get xs i ≡ Some x → 1 ≤ f x → slice_get xs j ≡ Some y → 1 ≤ f y → i ≡ j
  one_place [] few i j x y a p b q = absurd cc
  one_place (z ∷ xs) few zero zero x y a p b q = refl
  one_place (z ∷ xs) few zero (suc j) x y a p b q =
      absurd (let s = sum_first (f z) (map f xs) in let l = at_least xs j y b in let same = ap f (same_Some z x a) in omega (arith, few, s, l, same, p, q))
  one_place (z ∷ xs) few (suc i) zero x y a p b q =
      absurd (let s = sum_first (f z) (map f xs) in let l = at_least xs i x a in let same = ap f (same_Some z y b) in omega (arith, few, s, l, same, p, q))
  one_place (z ∷ xs) few (suc i) (suc j) x y a p b q = let s = sum_first (f z) (map f xs) in ap suc (one_place xs (omega (arith, few, s)) i j x y a p b q)

-- Units --------------------------------------------------------------------------------------
same_is : (a : ℕ) → (a == a) ≡ true
same_is a = grind (arith, common_steps)

pub same_self : (path : List ℕ) → same_path path path ≡ true
same_self [] = refl
same_self (i ∷ path) = and_true (i == i) (same_path path path) (same_is i) (same_self path)

leb_true : (a b : ℕ) → a ≤ b → leb a b ≡ true
leb_true a b le = grind (arith, common_steps)

ltb_true : (a b : ℕ) → a < b → ltb a b ≡ true
ltb_true a b lt = grind (arith, common_steps)

-- a part with bits a up to a + l of an integer, and one with a word, hold the units in them
pub bits_hold : (bits : ℕ) (path : List ℕ) (i l a : ℕ) (kind : Kind) → kind ≡ Bits path a → a ≤ i → i < a + l → holds_unit (Int bits) path i l kind ≡ true
bits_hold bits path i l a kind e lo hi =
    ap (holds_unit (Int bits) path i l) e ∙ and_true (same_path path path) (leb a i && ltb i (a + l)) (same_self path) (and_true (leb a i) (ltb i (a + l)) (leb_true a i lo) (ltb_true i (a + l) hi))

pub word_holds : (s : ℕ) (path : List ℕ) (i l : ℕ) (kind : Kind) → kind ≡ Word path i → holds_unit (Named s) path i l kind ≡ true
word_holds s path i l kind e = ap (holds_unit (Named s) path i l) e ∙ and_true (same_path path path) (i == i) (same_self path) (same_is i)

module _ (leaf : Leaf) (ty : Ty) (path : List ℕ) (i : ℕ) where
  -- a part of the leaf that holds the unit
  pub record HeldAt (r : WordRef) (f : FlatWord) (p : Part) : Type 0 where
    pub number : ℕ
    pub is_word : flat_at leaf r ≡ Some f
    pub is_part : slice_get f.parts number ≡ Some p
    pub holds : holds_unit ty path i p.l p.kind ≡ true

  part_counts : (p : Part) → holds_unit ty path i p.l p.kind ≡ true → 1 ≤ times_in_part ty path i p
  part_counts p e = let one : times_in_part ty path i p ≡ 1 = ap (λ t. if t then 1 else 0) e in omega (arith, one)

  word_counts : (f : FlatWord) (k : ℕ) (p : Part) → slice_get f.parts k ≡ Some p → holds_unit ty path i p.l p.kind ≡ true → 1 ≤ times_in_word ty path i f
  word_counts f k p at e = let a = at_least (times_in_part ty path i) f.parts k p at in let b = part_counts p e in omega (arith, a, b)

  module _ (few : times_held leaf ty path i ≤ 1) where
    root_few : sum (map (times_in_word ty path i) leaf.root) ≤ 1
    root_few = omega (arith, few)

    blocks_few : sum (map (times_in_block ty path i) leaf.blocks) ≤ 1
    blocks_few = omega (arith, few)

    -- that a word counts in a block
    record InBlock (b j : ℕ) (f : FlatWord) : Type 0 where
      block : Block
      is_block : slice_get leaf.blocks b ≡ Some block
      is_word : slice_get block.words j ≡ Some f
      counts : 1 ≤ times_in_block ty path i block

    in_block : (b j : ℕ) (f : FlatWord) → 1 ≤ times_in_word ty path i f → (o : Option Block) → slice_get leaf.blocks b ≡ o → slice_get (words_of_block o) j ≡ Some f → InBlock b j f
    in_block b j f one None e h = absurd cc
    in_block b j f one (Some block) e h = record {
      block = block;
      is_block = e;
      is_word = h;
      counts = (let a = at_least (times_in_word ty path i) block.words j f h in omega (arith, a, one));
    }

    both_sides : (j b : ℕ) (f g : FlatWord) (k : ℕ) → 1 ≤ times_in_word ty path i f → slice_get leaf.root j ≡ Some f → InBlock b k g → ⊥
    both_sides j b f g k one e x =
        let a = at_least (times_in_word ty path i) leaf.root j f e in
        let c = at_least (times_in_block ty path i) leaf.blocks b x.block x.is_block in
        let d = x.counts in
        omega (arith, few, one, a, c, d)

    in_blocks : (b c j k : ℕ) (f g : FlatWord) → 1 ≤ times_in_word ty path i f → 1 ≤ times_in_word ty path i g → InBlock b j f → InBlock c k g → (b ≡ c) × (j ≡ k)
    in_blocks b c j k f g one two x y =
        let same = one_place (times_in_block ty path i) leaf.blocks blocks_few b c x.block y.block x.is_block x.counts y.is_block y.counts in
        let block : x.block ≡ y.block = same_Some x.block y.block (sym x.is_block ∙ ap (slice_get leaf.blocks) same ∙ y.is_block) in
        let a = at_least (times_in_block ty path i) leaf.blocks b x.block x.is_block in
        let l = blocks_few in
        (same, one_place (times_in_word ty path i) x.block.words (omega (arith, a, l)) j k f g x.is_word one (ap (λ (z : Block). slice_get z.words k) block ∙ y.is_word) two)

    same_ref : (o q : Option ℕ) (j k : ℕ) (f g : FlatWord) → 1 ≤ times_in_word ty path i f → 1 ≤ times_in_word ty path i g → slice_get (words_in leaf o) j ≡ Some f → slice_get (words_in leaf q) k ≡ Some g → (o ≡ q) × (j ≡ k)
    same_ref None None j k f g one two e h = (refl, one_place (times_in_word ty path i) leaf.root root_few j k f g e one h two)
    same_ref None (Some c) j k f g one two e h = absurd (both_sides j c f g k one e (in_block c k g two (slice_get leaf.blocks c) refl h))
    same_ref (Some b) None j k f g one two e h = absurd (both_sides k b g f j two h (in_block b j f one (slice_get leaf.blocks b) refl e))
    same_ref (Some b) (Some c) j k f g one two e h =
        let s = in_blocks b c j k f g one two (in_block b j f one (slice_get leaf.blocks b) refl e) (in_block c k g two (slice_get leaf.blocks c) refl h) in
        (ap Some s.0, s.1)

    word_few : (r : WordRef) (f : FlatWord) → flat_at leaf r ≡ Some f → times_in_word ty path i f ≤ 1
    word_few r f e = go r.block r.word e
      where
        inner : (b j : ℕ) (o : Option Block) → slice_get leaf.blocks b ≡ o → slice_get (words_of_block o) j ≡ Some f → times_in_word ty path i f ≤ 1
        inner b j None x h = absurd cc
        inner b j (Some block) x h =
            let a = at_least (times_in_word ty path i) block.words j f h in
            let c = at_least (times_in_block ty path i) leaf.blocks b block x in
            let l = blocks_few in
            omega (arith, a, c, l)

        go : (o : Option ℕ) (j : ℕ) → slice_get (words_in leaf o) j ≡ Some f → times_in_word ty path i f ≤ 1
        go None j h = let a = at_least (times_in_word ty path i) leaf.root j f h in let l = root_few in omega (arith, a, l)
        go (Some b) j h = inner b j (slice_get leaf.blocks b) refl h

    pub record AreOne (r q : WordRef) (f g : FlatWord) (p s : Part) : Type 0 where
      pub ref : r ≡ q
      pub word : f ≡ g
      pub part : p ≡ s

    -- two parts that hold the unit are one
    pub held_once : (r q : WordRef) (f g : FlatWord) (p s : Part) → HeldAt r f p → HeldAt q g s → AreOne r q f g p s
    held_once r q f g p s x y =
        let one = word_counts f x.number p x.is_part x.holds in
        let two = word_counts g y.number s y.is_part y.holds in
        let same = same_ref r.block q.block r.word q.word f g one two x.is_word y.is_word in
        let ref : r ≡ q = ap (λ (o : Option ℕ). record { block = o; word = r.word }) same.0 ∙ ap (λ (j : ℕ). record { block = q.block; word = j }) same.1 in
        let word : f ≡ g = same_Some f g (sym x.is_word ∙ ap (flat_at leaf) ref ∙ y.is_word) in
        let at : slice_get f.parts y.number ≡ Some s = ap (λ (z : FlatWord). slice_get z.parts y.number) word ∙ y.is_part in
        let k : x.number ≡ y.number = one_place (times_in_part ty path i) f.parts (word_few r f x.is_word) x.number y.number p s x.is_part (part_counts p x.holds) at (part_counts s y.holds) in
        record { ref = ref; word = word; part = same_Some p s (sym x.is_part ∙ ap (slice_get f.parts) k ∙ at) }
