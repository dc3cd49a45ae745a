-- Of the pointers on the way to what stands at a path of a leaf, the first that is refused was reached; and where none is refused,
-- all that stands there was.
use Rattle.std.proofs.Common.{◌≡◌, ℕ, zero, suc, ◌+◌, ◌-◌, ◌/◌, ◌<◌, ◌≤◌, ◌==◌, ◌||◌, inl, inr, Bool, true, false, List, [], ◌∷◌, ◌++◌, length, replicate, Option, Some, None, Result, Ok, Err, refl, sym, subst, ap, ◌∙◌, append_assoc, arith}
use Rattle.std.specs.Prelude.{not, slice_get, slice_index, slice_set, if◌then◌else◌, unwrap_or}
use Rattle.std.specs.List.{flat_map, list_any}
use Rattle.std.proofs.lemmas.Grind.{common_steps}
use Rattle.std.proofs.lemmas.List.{length-replicate, length-set, get_or-set_same, get_or-set_other}
use Rattle.std.proofs.lemmas.Option.{slice_get_within}
use Rattle.std.specs.Option.{option_or}
use Rattle.rb_layout.specs.Flat.{HasBlock, IsAbove, IsFlat}
use Rattle.rb_layout.specs.Words.{begins_at, flat_at, words_in, words_of_block}
use Rattle.rb_layout.specs.declared.layout.Block.{Block}
use Rattle.rb_layout.specs.declared.layout.FlatWord.{FlatWord}
use Rattle.rb_layout.specs.declared.layout.Kind.{Kind}
use Rattle.rb_layout.specs.declared.layout.Kind.TheVariants.{Const, Bits, Word, Pointer}
use Rattle.rb_layout.specs.declared.layout.Leaf.{Leaf}
use Rattle.rb_layout.specs.declared.layout.Part.{Part}
use Rattle.rb_layout.specs.declared.layout.WordRef.{WordRef}
use Rattle.rb_image_text.specs.Places.{AreInPlace}
use Rattle.rb_image_text.specs.declared.fault.ImageFault.{ImageFault}
use Rattle.rb_image_text.specs.declared.image.ImageBlock.{ImageBlock}
use Rattle.rb_image.specs.declared.kept.Kept.{Kept}
use Rattle.rb_image.specs.Blocks.{word_in}
use Rattle.rb_image.specs.LeafWords.{follow, follow_kind, follow_part, block_addresses, with_found}
use Rattle.rb_image.specs.Orders.{LocatedPart, pointed_parts, block_order, by_offset, order_of, with_inner, word_order, words_order}
use Rattle.rb_image.specs.Parts.{bits_at, pointer_lead, kept_at}
use Rattle.rb_image.specs.Splits.{range_of}
use Rattle.rb_image.specs.Ways.{fault_of, is_below, leads_below, refusal_of, refused_below}
use Rattle.rb_image.proofs.LeafWordLemmas.{found_above}
use Rattle.rb_image.proofs.PlacedSpots.{AreLed, BlockSeen, order_led, order_spots, spot_of, words_have}
use Rattle.rb_image.proofs.PointerLemmas.{IsPointedOnce, pointing, pointing-append, points, points_same}
use Rattle.rb_image.proofs.SpotLemmas.{In, flat_map_in, in_append, in_beginning, in_flat_map, in_get, in_left, in_right}
use Rattle.rb_peek.specs.Paths.{is_there}
use Rattle.rb_peek.proofs.Members.{any_in, in_any, split_in}

-- The same behind pointers -------------------------------------------------------------------
module _ (inner other : ℕ → List LocatedPart) where
  behind_same : (k : Kind) → ((align c : ℕ) → k ≡ Pointer align c → inner c ≡ other c) → pointed_parts inner k ≡ pointed_parts other k
  behind_same (Const c) same = refl
  behind_same (Bits path a) same = refl
  behind_same (Word path j) same = refl
  behind_same (Pointer align b) same = same align b refl

  module _ (block : Option ℕ) where
    parts_same : (j byte width : ℕ) (ps : List Part) → ((p : Part) → In p ps → (align c : ℕ) → p.kind ≡ Pointer align c → inner c ≡ other c)
        → flat_map (with_inner inner block j byte width) ps ≡ flat_map (with_inner other block j byte width) ps
    parts_same j byte width [] same = refl
    parts_same j byte width (p ∷ ps) same =
        ap (λ xs. (record { block = block; word = j; byte = byte; width = width; part = p } ∷ xs) ++ flat_map (with_inner inner block j byte width) ps) (behind_same p.kind (same p (inl refl)))
        ∙ ap (λ xs. with_inner other block j byte width p ++ xs) (parts_same j byte width ps (λ q h. same q (inr h)))

    words_same : (j byte : ℕ) (fs : List FlatWord) → ((f : FlatWord) → In f fs → (p : Part) → In p f.parts → (align c : ℕ) → p.kind ≡ Pointer align c → inner c ≡ other c)
        → words_order inner block j byte fs ≡ words_order other block j byte fs
    words_same j byte [] same = refl
    words_same j byte (f ∷ fs) same =
        ap (λ xs. xs ++ words_order inner block (j + 1) (byte + f.width / 8) fs)
        (parts_same j byte f.width (by_offset f) (λ p h. same f (inl refl) p (in_beginning p f.parts 0 f.width h)))
        ∙ ap (λ xs. word_order other block j byte f ++ xs) (words_same (j + 1) (byte + f.width / 8) fs (λ g h. same g (inr h)))

-- What stands behind a pointer stands with it ------------------------------------------------
module _ (inner : ℕ → List LocatedPart) (block : Option ℕ) (t x : LocatedPart) (align c : ℕ) (kind : t.part.kind ≡ Pointer align c) where
  behind_closed : (k : Kind) → ((a b : ℕ) → k ≡ Pointer a b → In t (inner b) → In x (inner b)) → In t (pointed_parts inner k) → In x (pointed_parts inner k)
  behind_closed (Const n) go h = absurd h
  behind_closed (Bits path a) go h = absurd h
  behind_closed (Word path j) go h = absurd h
  behind_closed (Pointer a b) go h = go a b refl h

  words_closed : (j byte : ℕ) (fs : List FlatWord) → ((f : FlatWord) → In f fs → (p : Part) → In p f.parts → p.kind ≡ Pointer align c → In x (inner c))
      → ((f : FlatWord) → In f fs → (p : Part) → In p f.parts → (a b : ℕ) → p.kind ≡ Pointer a b → In t (inner b) → In x (inner b))
      → In t (words_order inner block j byte fs) → In x (words_order inner block j byte fs)
  words_closed j byte [] self deep h = absurd h
  words_closed j byte (f ∷ fs) self deep h = elim (in_append t (word_order inner block j byte f) (words_order inner block (j + 1) (byte + f.width / 8) fs) h) [
    | inl a ↦
        let r = in_flat_map (with_inner inner block j byte f.width) t (by_offset f) a in
        let at = in_beginning r.0 f.parts 0 f.width r.1 in
        let there : In x (pointed_parts inner r.0.kind) = elim r.2 [
          | inl e ↦
              let is : r.0.kind ≡ Pointer align c = ap (λ (y : LocatedPart). y.part.kind) (sym e) ∙ kind in
              subst (λ (k : Kind). In x (pointed_parts inner k)) (sym is) (self f (inl refl) r.0 at is)
          | inr g ↦ behind_closed r.0.kind (deep f (inl refl) r.0 at) g
        ] in
        in_left x (word_order inner block j byte f) (words_order inner block (j + 1) (byte + f.width / 8) fs)
        (flat_map_in (with_inner inner block j byte f.width) x r.0 (by_offset f) r.1 (inr there))
    | inr b ↦ in_right x (word_order inner block j byte f) (words_order inner block (j + 1) (byte + f.width / 8) fs)
        (words_closed (j + 1) (byte + f.width / 8) fs (λ g e. self g (inr e)) (λ g e. deep g (inr e)) b)
  ]

module _ (leaf : Leaf) (flat : IsFlat leaf) where
  abbrev all : ℕ
  all = length leaf.blocks

  leads_to : (o : Option ℕ) (f : FlatWord) (p : Part) (align c : ℕ) → In f (words_in leaf o) → In p f.parts → p.kind ≡ Pointer align c → HasBlock leaf align c × IsAbove o c
  leads_to o f p align c word part kind =
      let w = in_get f (words_in leaf o) word in
      let q = in_get p f.parts part in
      flat.below (record { block = o; word = w.0 }) p.l align c (record { word = f; number = q.0; part = p; is_word = w.1; is_part = q.1; is_length = refl; is_pointer = kind })

  -- blocks of a lower number are all that stands behind a block
  steady : (d c : ℕ) → c < d → block_order leaf d c ≡ block_order leaf (suc d) c
  steady zero c lt = absurd (omega (arith, lt))
  steady (suc e) c lt = words_same (block_order leaf e) (block_order leaf (suc e)) (Some c) 0 0 (words_in leaf (Some c))
      (λ f hf p hp align b kind. (let low = (leads_to (Some c) f p align b hf hp kind).1 in steady e b (omega (arith, low, lt))))

  steady_up : (n d c : ℕ) → c < d → block_order leaf d c ≡ block_order leaf (n + d) c
  steady_up zero d c lt = let z : d ≡ 0 + d = omega arith in ap (λ k. block_order leaf k c) z
  steady_up (suc n) d c lt =
      let z : suc (n + d) ≡ suc n + d = omega arith in
      steady_up n d c lt ∙ steady (n + d) c (omega (arith, lt)) ∙ ap (λ k. block_order leaf k c) z

  full : (d c : ℕ) → c < d → d ≤ all → block_order leaf d c ≡ block_order leaf all c
  full d c lt le = let z : (all - d) + d ≡ all = omega (arith, le) in steady_up (all - d) d c lt ∙ ap (λ k. block_order leaf k c) z

  closed : (d b : ℕ) → b < d → d ≤ all → (t x : LocatedPart) (align c : ℕ) → t.part.kind ≡ Pointer align c → In t (block_order leaf d b) → In x (block_order leaf all c) → In x (block_order leaf d b)
  closed zero b lt le t x align c kind h g = absurd (omega (arith, lt))
  closed (suc e) b lt le t x align c kind h g =
      words_closed (block_order leaf e) (Some b) t x align c kind 0 0 (words_in leaf (Some b))
      (λ f hf p hp is. (let low = (leads_to (Some b) f p align c hf hp is).1 in subst (In x) (sym (full e c (omega (arith, low, lt)) (omega (arith, le)))) g))
      (λ f hf p hp a o is inside. (let low = (leads_to (Some b) f p a o hf hp is).1 in closed e o (omega (arith, low, lt)) (omega (arith, le)) t x align c kind inside g)) h

  module _ (low : (r : WordRef) (f : FlatWord) (k : ℕ) (p : Part) → flat_at leaf r ≡ Some f → slice_get f.parts k ≡ Some p → p.o < f.width) where
    some_block : (c j : ℕ) (f : FlatWord) → slice_get (words_in leaf (Some c)) j ≡ Some f → c < all
    some_block c j f e = go (slice_get leaf.blocks c) refl e
      where
        go : (o : Option Block) → slice_get leaf.blocks c ≡ o → slice_get (words_of_block o) j ≡ Some f → c < all
        go None is h = absurd cc
        go (Some block) is h = slice_get_within leaf.blocks c block is

    block_has : (d c j k : ℕ) (f : FlatWord) (p : Part) → c < d → slice_get (words_in leaf (Some c)) j ≡ Some f → slice_get f.parts k ≡ Some p
        → In (spot_of leaf (record { block = Some c; word = j }) f p) (block_order leaf d c)
    block_has zero c j k f p lt is at = absurd (omega (arith, lt))
    block_has (suc e) c j k f p lt is at =
        let zj : j ≡ 0 + j = omega arith in
        let zb : begins_at (words_in leaf (Some c)) j ≡ 0 + begins_at (words_in leaf (Some c)) j = omega arith in
        words_have (block_order leaf e) (Some c) 0 0 (words_in leaf (Some c)) j f k p is at (low (record { block = Some c; word = j }) f k p is at) j (begins_at (words_in leaf (Some c)) j) zj zb
        (spot_of leaf (record { block = Some c; word = j }) f p) (inl refl)

    -- a part stands among those of its block
    record InBlock (s : LocatedPart) (c : ℕ) : Type 0 where
      small : c < all
      there : In s (block_order leaf all c)

    in_block : (s : LocatedPart) → In s (order_of leaf) → (c : ℕ) → s.block ≡ Some c → InBlock s c
    in_block s h c e =
        let x = order_spots leaf s h in
        let is : x.ref.block ≡ Some c = ap (λ (y : LocatedPart). y.block) (sym x.is) ∙ e in
        let word : slice_get (words_in leaf (Some c)) x.ref.word ≡ Some x.word = ap (λ o. slice_get (words_in leaf o) x.ref.word) (sym is) ∙ x.is_word in
        let small = some_block c x.ref.word x.word word in
        let same : s ≡ spot_of leaf (record { block = Some c; word = x.ref.word }) x.word s.part =
        x.is ∙ ap (λ o. spot_of leaf (record { block = o; word = x.ref.word }) x.word s.part) is in
        record { small = small; there = subst (λ (y : LocatedPart). In y (block_order leaf all c)) (sym same) (block_has all c x.ref.word x.number x.word s.part small word x.is_part) }

    module _ (path : List ℕ) where
      abbrev test : LocatedPart → Bool
      test s = is_below path s.part.kind

      below_or : (a b : Bool) → (a || b) ≡ true → (a ≡ true → b ≡ true) → b ≡ true
      below_or true b e go = go refl
      below_or false b e go = e

      -- what leads to a part below the path does so too
      leads_outer : (q s : LocatedPart) (align c : ℕ) → q.part.kind ≡ Pointer align c → In s (order_of leaf) → s.block ≡ Some c → leads_below leaf path s.part.kind ≡ true → leads_below leaf path q.part.kind ≡ true
      leads_outer q s align c kind h e leads =
          let i = in_block s h c e in
          let any : list_any test (block_order leaf all c) ≡ true =
          below_or (is_below path s.part.kind) (list_any test (block_order leaf all c)) (inside i s.part.kind refl (is_below path s.part.kind) leads) (λ here. any_in test s (block_order leaf all c) i.there here) in
          ap (leads_below leaf path) kind ∙ any
        where
          inside : InBlock s c → (k : Kind) → s.part.kind ≡ k → (here : Bool) → (here || list_any test (pointed_parts (block_order leaf all) k)) ≡ true → (here || list_any test (block_order leaf all c)) ≡ true
          inside i k is true g = refl
          inside i (Const n) is false g = absurd cc
          inside i (Bits own a) is false g = absurd cc
          inside i (Word own j) is false g = absurd cc
          inside i (Pointer a b) is false g =
              let r = in_any test (block_order leaf all b) g in
              any_in test r.0 (block_order leaf all c) (closed all c i.small (omega arith) s r.0 a b is i.there r.1) r.2

-- Addresses ----------------------------------------------------------------------------------
one_zero : (n : ℕ) → n ≡ 1 → n ≡ 0 → ⊥
one_zero n a b = omega (arith, a, b)

led_there : (before after : List LocatedPart) (s : LocatedPart) (seen : ℕ → ℕ) → AreLed seen (before ++ s ∷ after) → BlockSeen (λ c. pointing c before + seen c) s.block
led_there [] after s seen led = more s.block led.0
  where
    more : (o : Option ℕ) → BlockSeen seen o → BlockSeen (λ c. pointing c [] + seen c) o
    more None h = tt
    more (Some b) h = omega (arith, h)
led_there (x ∷ before) after s seen led = more s.block (led_there before after s (λ c. points c x.part.kind + seen c) led.1)
  where
    more : (o : Option ℕ) → BlockSeen (λ c. pointing c before + (points c x.part.kind + seen c)) o → BlockSeen (λ c. pointing c (x ∷ before) + seen c) o
    more None h = tt
    more (Some b) h = omega (arith, h)

-- one of the parts is a pointer to a block
pub record PointerAmong (c : ℕ) (ss : List LocatedPart) : Type 0 where
  pub part : LocatedPart
  pub align : ℕ
  pub there : In part ss
  pub is_kind : part.part.kind ≡ Pointer align c

pointer_among : (c : ℕ) (ss : List LocatedPart) → 1 ≤ pointing c ss → PointerAmong c ss
pointer_among c [] some = absurd (omega (arith, some))
pointer_among c (s ∷ ss) some = go s.part.kind refl (λ h. pointer_among c ss h)
  where
    later : (1 ≤ pointing c ss → PointerAmong c ss) → points c s.part.kind ≡ 0 → PointerAmong c (s ∷ ss)
    later more none =
        let r = more (omega (arith, some, none)) in
        record { part = r.part; align = r.align; there = inr r.there; is_kind = r.is_kind }

    pointed : (align b : ℕ) → s.part.kind ≡ Pointer align b → (t : Bool) → (b == c) ≡ t → (1 ≤ pointing c ss → PointerAmong c ss) → PointerAmong c (s ∷ ss)
    pointed align b kind true is more =
        let same : b ≡ c = grind (arith, common_steps) in
        record { part = s; align = align; there = inl refl; is_kind = kind ∙ ap (Pointer align) same }
    pointed align b kind false is more = later more (ap (points c) kind ∙ ap (λ (t : Bool). if t then 1 else 0) is)

    go : (k : Kind) → s.part.kind ≡ k → (1 ≤ pointing c ss → PointerAmong c ss) → PointerAmong c (s ∷ ss)
    go (Const n) kind more = later more (ap (points c) kind)
    go (Bits path a) kind more = later more (ap (points c) kind)
    go (Word path j) kind more = later more (ap (points c) kind)
    go (Pointer align b) kind more = pointed align b kind (b == c) refl more

module _ (m : List ImageBlock) (leaf : Leaf) (ws : List Kept) where
  follow_append : (known : List ℕ) (xs ys : List LocatedPart) → follow m leaf ws known (xs ++ ys) ≡ follow m leaf ws (follow m leaf ws known xs) ys
  follow_append known [] ys = refl
  follow_append known (x ∷ xs) ys = follow_append (follow_part m leaf ws known x) xs ys

  found_other : (known : List ℕ) (b c : ℕ) (r : Result ℕ ImageFault) → (c ≡ b → ⊥) → slice_index (with_found known b r) c ≡ slice_index known c
  found_other known b c (Err fault) ne = refl
  found_other known b c (Ok at) ne = get_or-set_other known b c at 0 ne

  kind_other : (known : List ℕ) (bits : Kept) (c : ℕ) (k : Kind) → points c k ≡ 0 → slice_index (follow_kind m leaf known bits k) c ≡ slice_index known c
  kind_other known bits c (Const n) none = refl
  kind_other known bits c (Bits path a) none = refl
  kind_other known bits c (Word path j) none = refl
  kind_other known bits c (Pointer align b) none = go (slice_index known b == 0)
    where
      ne : c ≡ b → ⊥
      ne same = one_zero (points c (Pointer align b)) (ap (λ x. points c (Pointer align x)) (sym same) ∙ points_same c align) none

      go : (t : Bool) → slice_index (if t then with_found known b (pointer_lead m leaf bits align b) else known) c ≡ slice_index known c
      go true = found_other known b c (pointer_lead m leaf bits align b) ne
      go false = refl

  found_long : (known : List ℕ) (b : ℕ) (r : Result ℕ ImageFault) → length (with_found known b r) ≡ length known
  found_long known b (Err fault) = refl
  found_long known b (Ok at) = length-set known b at

  kind_long : (known : List ℕ) (bits : Kept) (k : Kind) → length (follow_kind m leaf known bits k) ≡ length known
  kind_long known bits (Const n) = refl
  kind_long known bits (Bits path a) = refl
  kind_long known bits (Word path j) = refl
  kind_long known bits (Pointer align b) = go (slice_index known b == 0)
    where
      go : (t : Bool) → length (if t then with_found known b (pointer_lead m leaf bits align b) else known) ≡ length known
      go true = found_long known b (pointer_lead m leaf bits align b)
      go false = refl

  all_long : (known : List ℕ) (ss : List LocatedPart) → length (follow m leaf ws known ss) ≡ length known
  all_long known [] = refl
  all_long known (s ∷ ss) = all_long (follow_part m leaf ws known s) ss ∙ kind_long known (bits_at m ws known s) s.part.kind

  -- parts none of which is a pointer to a block leave its address
  untouched : (known : List ℕ) (ss : List LocatedPart) (c : ℕ) → pointing c ss ≡ 0 → slice_index (follow m leaf ws known ss) c ≡ slice_index known c
  untouched known [] c none = refl
  untouched known (s ∷ ss) c none =
      untouched (follow_part m leaf ws known s) ss c (omega (arith, none)) ∙ kind_other known (bits_at m ws known s) c s.part.kind (omega (arith, none))

  bits_same : (known ats : List ℕ) (s : LocatedPart) → ((c : ℕ) → s.block ≡ Some c → slice_index known c ≡ slice_index ats c) → bits_at m ws known s ≡ bits_at m ws ats s
  bits_same known ats s same = ap (λ k. range_of k s.part.o s.part.l) (go s.block same)
    where
      go : (o : Option ℕ) → ((c : ℕ) → o ≡ Some c → slice_index known c ≡ slice_index ats c) → kept_at m ws known o s ≡ kept_at m ws ats o s
      go None h = refl
      go (Some c) h = ap (λ a. record { number = unwrap_or (word_in m a s.byte s.width) 0; base = a; place = s.byte }) (h c refl)

  abbrev ats : List ℕ
  ats = block_addresses m leaf ws

  abbrev zeros : List ℕ
  zeros = replicate (length leaf.blocks) 0

  zero_at : (n c : ℕ) → slice_index (replicate n 0) c ≡ 0
  zero_at zero c = refl
  zero_at (suc n) zero = refl
  zero_at (suc n) (suc c) = zero_at n c

  module _ (once : IsPointedOnce leaf) (before after : List LocatedPart) (s : LocatedPart) (is : order_of leaf ≡ before ++ s ∷ after) where
    abbrev known : List ℕ
    known = follow m leaf ws zeros before

    ats_is : ats ≡ follow m leaf ws known (s ∷ after)
    ats_is = ap (follow m leaf ws zeros) is ∙ follow_append zeros before (s ∷ after)

    counts : (c : ℕ) → pointing c before + pointing c (s ∷ after) ≤ 1
    counts c =
        let most = once c in
        let sum = ap (pointing c) is ∙ pointing-append c before (s ∷ after) in
        omega (arith, most, sum)

    -- a part before which no pointer to its block stands is of the root
    seen : (c : ℕ) → s.block ≡ Some c → 1 ≤ pointing c before
    seen c e =
        let led : BlockSeen (λ c. pointing c before + 0) s.block = led_there before after s (λ c. 0) (subst (AreLed (λ c. 0)) is (order_led leaf)) in
        let h : BlockSeen (λ c. pointing c before + 0) (Some c) = subst (BlockSeen (λ c. pointing c before + 0)) e led in
        omega (arith, h)

    bits_settled : bits_at m ws known s ≡ bits_at m ws ats s
    bits_settled = bits_same known ats s (λ c e.
        (let some = seen c e in
        let most = counts c in
        sym (ap (λ xs. slice_index xs c) ats_is ∙ untouched known (s ∷ after) c (omega (arith, some, most)))))

    -- a pointer that leads to a block of the leaf's size gives the block's address
    pub pointer_reached : (align b at : ℕ) → s.part.kind ≡ Pointer align b → b < length leaf.blocks → ◌≡◌ {A = Result ℕ ImageFault} (pointer_lead m leaf (bits_at m ws ats s) align b) (Ok at) → slice_index ats b ≡ at
    pointer_reached align b at kind small found =
        let one : points b s.part.kind ≡ 1 = ap (points b) kind ∙ points_same b align in
        let most = counts b in
        let none : slice_index known b ≡ 0 = untouched zeros before b (omega (arith, one, most)) ∙ zero_at (length leaf.blocks) b in
        let long : length known ≡ length leaf.blocks = all_long zeros before ∙ length-replicate (length leaf.blocks) 0 in
        let here : follow_part m leaf ws known s ≡ slice_set known b at =
        ap (follow_kind m leaf known (bits_at m ws known s)) kind
        ∙ ap (λ (t : Bool). if t then with_found known b (pointer_lead m leaf (bits_at m ws known s) align b) else known) (ap (λ n. n == 0) none ∙ zero_is)
        ∙ ap (λ k. with_found known b (pointer_lead m leaf k align b)) bits_settled ∙ ap (with_found known b) found in
        ap (λ xs. slice_index xs b) ats_is ∙ untouched (follow_part m leaf ws known s) after b (omega (arith, one, most))
        ∙ ap (λ xs. slice_index xs b) here ∙ get_or-set_same known b at 0 (omega (arith, long, small))
      where
        zero_is : (0 == 0) ≡ true
        zero_is = grind (arith, common_steps)

-- Ways ---------------------------------------------------------------------------------------
module _ (m : List ImageBlock) (placed : AreInPlace m) (leaf : Leaf) (flat : IsFlat leaf) (once : IsPointedOnce leaf)
    (low : (r : WordRef) (f : FlatWord) (k : ℕ) (p : Part) → flat_at leaf r ≡ Some f → slice_get f.parts k ≡ Some p → p.o < f.width) (ws : List Kept) (path : List ℕ) where
  abbrev bits : LocatedPart → Kept
  bits s = bits_at m ws (block_addresses m leaf ws) s

  abbrev refusal : LocatedPart → Option ImageFault
  refusal s = refusal_of m leaf (bits s) s.part.kind

  -- so far no pointer on the way was refused
  abbrev NoneRefused : List LocatedPart → Type 0
  NoneRefused before = (q : LocatedPart) → In q before → leads_below leaf path q.part.kind ≡ true → refusal q ≡ None

  free_found : (r : Result ℕ ImageFault) → fault_of r ≡ None → (at : ℕ) × ◌≡◌ {A = Result ℕ ImageFault} r (Ok at)
  free_found (Ok at) e = (at, refl)
  free_found (Err fault) e = absurd cc

  above_zero : (n : ℕ) → 0 < n → not (n == 0) ≡ true
  above_zero n lt = let no : (n == 0) ≡ false = grind (arith, common_steps, lt) in ap not no

  -- a part on the way is there, if all pointers before it were followed
  way_there : (before after : List LocatedPart) (s : LocatedPart) → order_of leaf ≡ before ++ s ∷ after → leads_below leaf path s.part.kind ≡ true → NoneRefused before → is_there (block_addresses m leaf ws) s.block ≡ true
  way_there before after s is leads none = go s.block refl
    where
      go : (o : Option ℕ) → s.block ≡ o → is_there (block_addresses m leaf ws) o ≡ true
      go None e = refl
      go (Some c) e =
          let q = pointer_among c before (seen m leaf ws once before after s is c e) in
          let in_s : In s (order_of leaf) = subst (In s) (sym is) (in_right s before (s ∷ after) (inl refl)) in
          let in_q : In q.part (order_of leaf) = subst (In q.part) (sym is) (in_left q.part before (s ∷ after) q.there) in
          let outer = leads_outer leaf flat low path q.part s q.align c q.is_kind in_s e leads in
          let free : fault_of (pointer_lead m leaf (bits q.part) q.align c) ≡ None = ap (refusal_of m leaf (bits q.part)) (sym q.is_kind) ∙ none q.part q.there outer in
          let found = free_found (pointer_lead m leaf (bits q.part) q.align c) free in
          let small = (in_block leaf flat low s in_s c e).small in
          let at = split_in q.part (order_of leaf) in_q in
          let address = pointer_reached m leaf ws once at.0 at.1 q.part at.2 q.align c found.0 q.is_kind small found.1 in
          ap (λ n. not (n == 0)) address ∙ above_zero found.0 (found_above m leaf placed (bits q.part) q.align c found.0 found.1)

  pub record IsFirst (fault : ImageFault) : Type 0 where
    pub part : LocatedPart
    pub there : In part (order_of leaf)
    pub leads : leads_below leaf path part.part.kind ≡ true
    pub is_read : is_there (block_addresses m leaf ws) part.block ≡ true
    pub is_fault : refusal part ≡ Some fault

  abbrev refused : List LocatedPart → Option ImageFault
  refused = refused_below m leaf ws (block_addresses m leaf ws) path

  one_more : (before : List LocatedPart) (s : LocatedPart) → NoneRefused before → (leads_below leaf path s.part.kind ≡ true → refusal s ≡ None) → NoneRefused (before ++ s ∷ [])
  one_more before s none here q h leads = elim (in_append q before (s ∷ []) h) [
    | inl a ↦ none q a leads
    | inr b ↦ elim b [
      | inl e ↦ ap refusal e ∙ here (ap (λ (x : LocatedPart). leads_below leaf path x.part.kind) (sym e) ∙ leads)
      | inr f ↦ absurd f
    ]
  ]

  first_refused : (rest before : List LocatedPart) (fault : ImageFault) → order_of leaf ≡ before ++ rest → NoneRefused before → refused rest ≡ Some fault → IsFirst fault
  first_refused [] before fault is none e = absurd cc
  first_refused (s ∷ rest) before fault is none e =
      go (λ here g. first_refused rest (before ++ s ∷ []) fault (is ∙ sym (append_assoc before (s ∷ []) rest)) (one_more before s none here) g) (leads_below leaf path s.part.kind) refl e
    where
      led : ((leads_below leaf path s.part.kind ≡ true → refusal s ≡ None) → refused rest ≡ Some fault → IsFirst fault) → leads_below leaf path s.part.kind ≡ true
          → (o : Option ImageFault) → refusal s ≡ o → option_or o (refused rest) ≡ Some fault → IsFirst fault
      led more leads None free g = more (λ h. free) g
      led more leads (Some f) found g = record {
        part = s;
        there = subst (In s) (sym is) (in_right s before (s ∷ rest) (inl refl));
        leads = leads;
        is_read = way_there before rest s is leads none;
        is_fault = found ∙ g;
      }

      go : ((leads_below leaf path s.part.kind ≡ true → refusal s ≡ None) → refused rest ≡ Some fault → IsFirst fault)
          → (t : Bool) → leads_below leaf path s.part.kind ≡ t → option_or (if t then refusal s else None) (refused rest) ≡ Some fault → IsFirst fault
      go more true leads g = led more leads (refusal s) refl g
      go more false leads g = more (λ h. absurd (let no = sym leads ∙ h in cc)) g

  -- the first pointer on the way that is refused was reached
  pub first_is : (fault : ImageFault) → refused (order_of leaf) ≡ Some fault → IsFirst fault
  first_is fault e = first_refused (order_of leaf) [] fault refl (λ q h leads. absurd h) e

  none_refused : (ss : List LocatedPart) → refused ss ≡ None → NoneRefused ss
  none_refused [] e q h leads = absurd h
  none_refused (s ∷ ss) e q h leads = go (none_refused ss) (leads_below leaf path s.part.kind) refl e h
    where
      free : (o : Option ImageFault) → option_or o (refused ss) ≡ None → (o ≡ None) × (refused ss ≡ None)
      free None g = (refl, g)
      free (Some f) g = absurd cc

      go : (refused ss ≡ None → NoneRefused ss) → (t : Bool) → leads_below leaf path s.part.kind ≡ t → option_or (if t then refusal s else None) (refused ss) ≡ None → In q (s ∷ ss) → refusal q ≡ None
      go more true is g (inl same) = ap refusal same ∙ (free (refusal s) g).0
      go more true is g (inr i) = more (free (refusal s) g).1 q i leads
      go more false is g (inl same) = absurd (let no = sym is ∙ ap (λ (x : LocatedPart). leads_below leaf path x.part.kind) (sym same) ∙ leads in cc)
      go more false is g (inr i) = more g q i leads

  -- where no pointer on the way is refused, all parts on it are there
  pub all_there : refused (order_of leaf) ≡ None → (s : LocatedPart) → In s (order_of leaf) → leads_below leaf path s.part.kind ≡ true → is_there (block_addresses m leaf ws) s.block ≡ true
  all_there e s h leads =
      let at = split_in s (order_of leaf) h in
      way_there at.0 at.1 s at.2 leads (λ q i. none_refused (order_of leaf) e q (subst (In q) (sym at.2) (in_left q at.0 (s ∷ at.1) i)))
