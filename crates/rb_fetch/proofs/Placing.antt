-- Where parts of leaves stand, and the locations that lead there.
use Rattle.std.proofs.Common.{◌≡◌, ℕ, zero, suc, ◌+◌, ◌/◌, ◌<◌, ◌==◌, List, [], ◌∷◌, take, true, Option, Some, None, refl, sym, subst, ap, ◌∙◌, arith, eqb-true}
use Rattle.std.specs.Prelude.{slice_get}
use Rattle.std.proofs.lemmas.Grind.{common_steps}
use Rattle.std.proofs.lemmas.Option.{same_Some, slice_get_within}
use Rattle.rb_core.specs.declared.layout_decl.Loc.{Loc}
use Rattle.rb_layout.specs.declared.layout.Leaf.{Leaf}
use Rattle.rb_layout.specs.declared.layout.Block.{Block}
use Rattle.rb_layout.specs.declared.layout.FlatWord.{FlatWord}
use Rattle.rb_layout.specs.declared.layout.Kind.{Kind}
use Rattle.rb_layout.specs.declared.layout.Kind.TheVariants.{Const, Bits, Word, Pointer}
use Rattle.rb_layout.specs.Flat.{IsFlat, IsAbove}
use Rattle.rb_layout.specs.Pointers.{PointsTo}
use Rattle.rb_layout.specs.Readable.{AreShort}
use Rattle.rb_layout.specs.Words.{words_in, words_of_block, bytes_taken, begins_at}
use Rattle.rb_rel.specs.Reading.{LeadsTo}
use Rattle.rb_rel.proofs.Agreeing.{lawful}
use Rattle.rb_rel.proofs.Parts.{IsTidyLeaf}
use Rattle.rb_rel.proofs.Tidy.{tidy_leaves}
use Rattle.rb_rel.proofs.Ways.{leads_root, leads_block, through}
use Rattle.rb_fetch.specs.declared.place.Spot.{Spot}
use Rattle.rb_fetch.specs.declared.place.Wanted.TheVariants.{WayTo}
use Rattle.rb_fetch.specs.inner.Placing.{IsAgreedLeaf, points_to, NoSpot, IsSpot, IsWantedSpot, step_of, outer_count}
use Rattle.rb_fetch.proofs.Fitting.{width_low}

pub bytes_more : (fs : List FlatWord) (j : ℕ) (f : FlatWord) → slice_get fs j ≡ Some f → bytes_taken (take (j + 1) fs) ≡ bytes_taken (take j fs) + f.width / 8
bytes_more [] j f e = absurd cc
bytes_more (g ∷ fs) zero f e = let same = ap (λ (x : FlatWord). x.width) (same_Some g f e) in omega (arith, same)
bytes_more (g ∷ fs) (suc j) f e =
    let step : suc j + 1 ≡ suc (j + 1) = omega arith in
    let more = bytes_more fs j f e in
    ap (λ n. bytes_taken (take n (g ∷ fs))) step ∙ omega (arith, more)

-- Leaves of layouts that agree

module _ (leaf : Leaf) (ok : IsAgreedLeaf leaf) where
  pub tidy : IsTidyLeaf leaf
  tidy = tidy_leaves ok.program ok.typed ok.agrees ok.ty ok.layout ok.number leaf ok.is_layout ok.is_leaf

  pub flat : IsFlat leaf
  flat = (lawful ok.program ok.agrees ok.typed).flat ok.ty ok.layout ok.number leaf ok.is_layout ok.is_leaf

  pub block_short : (b : ℕ) (block : Block) → slice_get leaf.blocks b ≡ Some block → AreShort block.words
  block_short b block is =
      let has = ok.agrees.a4 ok.ty ok.layout ok.number leaf ok.is_layout ok.is_leaf in
      record { few = (has.lengths b block is).1; short = λ k f e. width_low f.width (has.widths b block k f is e) }

  -- a spot in a block is in one that is there
  pub some_block : (x : Spot) (b : ℕ) → IsSpot leaf x → x.block ≡ Some b → slice_get leaf.blocks b ≡ None → ⊥
  some_block x b at is none =
      let e : slice_get (words_of_block (slice_get leaf.blocks b)) x.word ≡ Some x.flat.now = ap (λ o. slice_get (words_in leaf o) x.word) (sym is) ∙ at.is_word in
      absurd (let z = ap (λ o. slice_get (words_of_block o) x.word) (sym none) ∙ e in cc)

  same_is : (a : ℕ) → (a == a) ≡ true
  same_is a = grind (arith, common_steps)

  -- each block has a pointer to it
  pub some_pointer : (b : ℕ) (block : Block) → slice_get leaf.blocks b ≡ Some block → NoSpot leaf [] (WayTo b) → ⊥
  some_pointer b block is none =
      let p = flat.pointed b block is in
      none p.0.block p.0.word p.2.word p.2.is_word p.2.number p.2.part p.2.is_part (ap (points_to b) p.2.is_pointer ∙ same_is b)

  pointer_kind : (b : ℕ) (k : Kind) → points_to b k ≡ true → (align : ℕ) × (k ≡ Pointer align b)
  pointer_kind b (Const c) e = absurd cc
  pointer_kind b (Bits path a) e = absurd cc
  pointer_kind b (Word path j) e = absurd cc
  pointer_kind b (Pointer align own) e = (align, ap (Pointer align) (eqb-true own b e))

  module _ (b : ℕ) (x : Spot) (at : IsWantedSpot leaf [] (WayTo b) x) where
    pub points : (align : ℕ) × (x.part.now.kind ≡ Pointer align b)
    points = pointer_kind b x.part.now.kind at.is_it

    pub pointer : PointsTo leaf (record { block = x.block; word = x.word }) x.part.now.l points.0 b
    pointer = record { word = x.flat.now; number = at.spot.number; part = x.part.now; is_word = at.spot.is_word; is_part = at.spot.is_part; is_length = refl; is_pointer = points.1 }

    pub above : IsAbove x.block b
    above = (flat.below (record { block = x.block; word = x.word }) x.part.now.l points.0 b pointer).1

    -- the block has the pointer's alignment
    pub aligned : (block : Block) → slice_get leaf.blocks b ≡ Some block → points.0 ≡ block.align
    aligned block is =
        let h = (flat.below (record { block = x.block; word = x.word }) x.part.now.l points.0 b pointer).0 in
        sym h.2 ∙ ap (λ (y : Block). y.align) (same_Some h.0 block (sym h.1 ∙ is))

  pub further_out : (x : Option ℕ) (b : ℕ) (block : Block) → slice_get leaf.blocks b ≡ Some block → IsAbove x b → outer_count leaf x < outer_count leaf (Some b)
  further_out None b block is above = let lt = slice_get_within leaf.blocks b block is in omega (arith, lt)
  further_out (Some a) b block is above = let lt = slice_get_within leaf.blocks b block is in omega (arith, lt, above)

  -- a part of a root word
  pub root_leads : (x : Spot) → IsSpot leaf x → x.block ≡ None → let loc : Loc = record { word = x.word; o = x.part.now.o; l = x.part.now.l; steps = [] } in LeadsTo leaf loc x.part.now.l x.part.now.kind
  root_leads x at is =
      leads_root leaf tidy x.word x.flat.now at.number x.part.now (ap (λ o. slice_get (words_in leaf o) x.word) (sym is) ∙ at.is_word) at.is_part

  -- a part of a block
  pub block_leads : (x : Spot) (b : ℕ) (block : Block) → IsSpot leaf x → x.block ≡ Some b → slice_get leaf.blocks b ≡ Some block
      → (p : Spot) → IsWantedSpot leaf [] (WayTo b) p → (loc : Loc) → LeadsTo leaf loc p.part.now.l p.part.now.kind
      → LeadsTo leaf (through loc (step_of block x)) x.part.now.l x.part.now.kind
  block_leads x b block at is there p wanted loc leads =
      let k = points b p wanted in
      let l1 : LeadsTo leaf loc p.part.now.l (Pointer block.align b) = subst (λ (y : Kind). LeadsTo leaf loc p.part.now.l y) (k.1 ∙ ap (λ a. Pointer a b) (aligned b p wanted block there)) leads in
      let e : slice_get (words_in leaf (Some b)) x.word ≡ Some x.flat.now = ap (λ o. slice_get (words_in leaf o) x.word) (sym is) ∙ at.is_word in
      let found = leads_block leaf tidy loc p.part.now.l block.align b l1 x.word x.flat.now at.number x.part.now e at.is_part in
      subst (λ fs. LeadsTo leaf (through loc (record { align = block.align; byte = begins_at fs x.word; width = x.flat.now.width; o = x.part.now.o; l = x.part.now.l })) x.part.now.l x.part.now.kind)
      (ap words_of_block there) found
