-- The words of a leaf that were read, and how many are not read yet.
use Rattle.std.proofs.Common.{◌≡◌, ℕ, inl, inr, Result, Ok, zero, suc, ◌+◌, ◌/◌, ◌<◌, ◌≤◌, ◌==◌, length, drop, set, replicate, List, [], ◌∷◌, ◌++◌, Bool, true, false, Option, Some, None, refl, sym, subst, ap, ◌∙◌, append_assoc, arith}
use Rattle.std.specs.Prelude.{slice_get, slice_index, if◌then◌else◌, unwrap_or}
use Rattle.std.specs.List.{sum_by}
use Rattle.std.specs.declared.alloc.Global.{Global}
use Rattle.std.specs.declared.vec.Vec.{Vec}
use Rattle.std.proofs.lemmas.Bool.{cases_eq}
use Rattle.std.proofs.lemmas.Grind.{common_steps}
use Rattle.std.proofs.lemmas.List.{length-set, get_or-set_same, get_or-set_other}
use Rattle.std.proofs.lemmas.List.Sums.{sum_by-cons}
use Rattle.std.proofs.lemmas.Option.{none-some, same_Some}
use Rattle.rb_layout.specs.declared.layout.Block.{Block}
use Rattle.rb_layout.specs.declared.layout.FlatWord.{FlatWord}
use Rattle.rb_layout.specs.declared.layout.Kind.{Kind}
use Rattle.rb_layout.specs.declared.layout.Kind.TheVariants.{Pointer}
use Rattle.rb_layout.specs.declared.layout.Leaf.{Leaf}
use Rattle.rb_layout.specs.declared.layout.Part.{Part}
use Rattle.rb_layout.specs.Words.{begins_at, words_in, words_of_block}
use Rattle.rb_image_text.specs.declared.fault.ImageFault.{ImageFault}
use Rattle.rb_image_text.specs.declared.image.ImageBlock.{ImageBlock}
use Rattle.rb_image_text.specs.Places.{AreInPlace}
use Rattle.rb_image.specs.declared.kept.Kept.{Kept}
use Rattle.rb_image.specs.declared.leaf_words.LeafWords.{LeafWords}
use Rattle.rb_image.specs.declared.order.Spot.{Spot}
use Rattle.rb_image.specs.Blocks.{size_at, size_in, word_in}
use Rattle.rb_image.specs.LeafWords.{AreNumbers, HasNumbers, block_numbers, follow, follow_kind, follow_part, items_or_none, numbers_at, with_found}
use Rattle.rb_image.specs.Orders.{LocatedPart, IsLeafPart, order_of, spot_part, spots_of}
use Rattle.rb_image.specs.Parts.{bits_at, pointer_lead, kept_at}
use Rattle.rb_image.specs.Splits.{range_of}
use Rattle.rb_image.specs.inner.Reaching.{unread_words, word_read}
use Rattle.rb_image.proofs.DropLemmas.{drop_item, drop_past}
use Rattle.rb_image.proofs.ExaminedParts.{followed_is}
use Rattle.rb_image.proofs.PlacedSpots.{order_spots, spot_of}
use Rattle.rb_image.proofs.RootLemmas.{none_at_zero}
use Rattle.rb_image.proofs.SiteLemmas.{no_word_at_zero}
use Rattle.rb_image.proofs.SpotLemmas.{get_in}

-- Numbers ------------------------------------------------------------------------------------
module _ (m : List ImageBlock) (at : ℕ) where
  -- one word more
  pub number_more : (fs : List FlatWord) (j byte : ℕ) (f : FlatWord) (before : List ℕ) → slice_get fs j ≡ Some f → before ++ numbers_at m at byte (drop j fs)
      ≡ (before ++ unwrap_or (word_in m at byte f.width) 0 ∷ []) ++ numbers_at m at (byte + f.width / 8) (drop (j + 1) fs)
  number_more fs j byte f before is =
      ap (λ xs. before ++ numbers_at m at byte xs) (drop_item fs j f is)
      ∙ sym (append_assoc before (unwrap_or (word_in m at byte f.width) 0 ∷ []) (numbers_at m at (byte + f.width / 8) (drop (j + 1) fs)))

  -- word j
  number_there : (fs : List FlatWord) (byte j : ℕ) (f : FlatWord) → slice_get fs j ≡ Some f → slice_index (numbers_at m at byte fs) j ≡ unwrap_or (word_in m at (byte + begins_at fs j) f.width) 0
  number_there [] byte j f is = absurd cc
  number_there (e ∷ fs) byte zero f is =
      let here : byte ≡ byte + 0 = omega arith in
      ap (λ (x : FlatWord). unwrap_or (word_in m at byte x.width) 0) (same_Some e f is) ∙ ap (λ b. unwrap_or (word_in m at b f.width) 0) here
  number_there (e ∷ fs) byte (suc j) f is =
      let up : byte + e.width / 8 + begins_at fs j ≡ byte + (e.width / 8 + begins_at fs j) = omega arith in
      number_there fs (byte + e.width / 8) j f is ∙ ap (λ b. unwrap_or (word_in m at b f.width) 0) up

-- Words that were read -----------------------------------------------------------------------
zero_is : (at : ℕ) → (at == 0) ≡ true → at ≡ 0
zero_is at e = grind (arith, common_steps)

module _ (m : List ImageBlock) (placed : AreInPlace m) (leaf : Leaf) (x : LeafWords) (has : HasNumbers m leaf x) where
  abbrev ats : List ℕ
  ats = x.addresses.items

  word_is : (b j : ℕ) (f : FlatWord) → slice_get (words_in leaf (Some b)) j ≡ Some f
      → slice_index (items_or_none (slice_get x.blocks.items b)) j ≡ unwrap_or (word_in m (slice_index ats b) (begins_at (words_in leaf (Some b)) j) f.width) 0
  word_is b j f is = ap (λ ns. slice_index ns j) (has.numbers b) ∙ go (slice_index ats b == 0) refl
    where
      fs : List FlatWord
      fs = words_in leaf (Some b)

      go : (t : Bool) → (slice_index ats b == 0) ≡ t → slice_index (if t then [] else numbers_at m (slice_index ats b) 0 (words_in leaf (Some b))) j
          ≡ unwrap_or (word_in m (slice_index ats b) (begins_at (words_in leaf (Some b)) j) f.width) 0
      go true e =
          let byte = begins_at (words_in leaf (Some b)) j in
          sym (ap (λ a. unwrap_or (word_in m a byte f.width) 0) (zero_is (slice_index ats b) e) ∙ ap (λ o. unwrap_or o 0) (no_word_at_zero m placed byte f.width))
      go false e = number_there m (slice_index ats b) (words_in leaf (Some b)) 0 j f is ∙ (let up : 0 + begins_at (words_in leaf (Some b)) j ≡ begins_at (words_in leaf (Some b)) j = omega arith in ap (λ k. unwrap_or (word_in m (slice_index ats b) k f.width) 0) up)

  spot_read : (o : Option ℕ) (j : ℕ) (f : FlatWord) (p : Part) → slice_get (words_in leaf o) j ≡ Some f → let s = spot_of leaf (record { block = o; word = j }) f p in
      word_read x o s ≡ kept_at m x.root.items ats o s
  spot_read None j f p is = refl
  spot_read (Some b) j f p is =
      ap (λ n. record { number = n; base = slice_index ats b; place = begins_at (words_in leaf (Some b)) j }) (word_is b j f is)

  pub bits_are : (s : LocatedPart) → IsLeafPart leaf s → range_of (word_read x s.block s) s.part.o s.part.l ≡ bits_at m x.root.items ats s
  bits_are s part =
      let h = order_spots leaf s (get_in s (order_of leaf) part.0 part.1) in
      subst (λ (t : LocatedPart). range_of (word_read x t.block t) t.part.o t.part.l ≡ bits_at m x.root.items ats t) (sym h.is)
      (ap (λ w. range_of w s.part.o s.part.l) (spot_read h.ref.block h.ref.word h.word s.part h.is_word))

-- a part that stands in the order is one of the leaf
pub spot_is_part : (leaf : Leaf) (items : List Spot) (i : ℕ) (s : Spot) → spots_of items ≡ order_of leaf → slice_get items i ≡ Some s → IsLeafPart leaf (spot_part s)
spot_is_part leaf items i s same is = (i, ap (λ ss. slice_get ss i) (sym same) ∙ there items i s is)
  where
    there : (xs : List Spot) (k : ℕ) (x : Spot) → slice_get xs k ≡ Some x → slice_get (spots_of xs) k ≡ Some (spot_part x)
    there [] k x e = absurd cc
    there (y ∷ ys) zero x e = ap (λ z. Some (spot_part z)) (same_Some y x e)
    there (y ∷ ys) (suc k) x e = there ys k x e

-- Parts that are followed --------------------------------------------------------------------
module _ (m : List ImageBlock) (leaf : Leaf) (ws : List Kept) (items : List Spot) (k : ℕ) (ats due : List ℕ) (before : due ≡ follow m leaf ws ats (spots_of (drop k items))) where
  -- one part more
  pub follow_more : (spot : Spot) → slice_get items k ≡ Some spot → (root : List Kept) → root ≡ ws → (new : List ℕ) → new ≡ follow_part m leaf root ats (spot_part spot)
      → due ≡ follow m leaf ws new (spots_of (drop (k + 1) items))
  follow_more spot is root same new is_new =
      before ∙ ap (λ ss. follow m leaf ws ats (spots_of ss)) (drop_item items k spot is)
      ∙ ap (λ xs. follow m leaf ws xs (spots_of (drop (k + 1) items))) (ap (λ r. follow_part m leaf r ats (spot_part spot)) (sym same) ∙ sym is_new)

  -- behind the last part
  pub all_followed : length items ≤ k → ats ≡ due
  all_followed le = sym (before ∙ ap (λ ss. follow m leaf ws ats (spots_of ss)) (drop_past items k le))

-- One block more -----------------------------------------------------------------------------
items_same : (blocks : List (Vec ℕ Global)) (b : ℕ) (v : Vec ℕ Global) → b < length blocks → items_or_none (slice_get (set blocks b v) b) ≡ v.items
items_same [] b v lt = absurd (omega (arith, lt))
items_same (w ∷ blocks) zero v lt = refl
items_same (w ∷ blocks) (suc b) v lt = items_same blocks b v (omega (arith, lt))

items_other : (blocks : List (Vec ℕ Global)) (b c : ℕ) (v : Vec ℕ Global) → (c ≡ b → ⊥) → items_or_none (slice_get (set blocks b v) c) ≡ items_or_none (slice_get blocks c)
items_other [] b c v ne = refl
items_other (w ∷ blocks) zero zero v ne = absurd (ne refl)
items_other (w ∷ blocks) zero (suc c) v ne = refl
items_other (w ∷ blocks) (suc b) zero v ne = refl
items_other (w ∷ blocks) (suc b) (suc c) v ne = items_other blocks b c v (λ e. ne (ap suc e))

not_zero : (at : ℕ) → 0 < at → (at == 0) ≡ false
not_zero at lt = grind (arith, common_steps, lt)

is_zero : (at : ℕ) → at ≡ 0 → (at == 0) ≡ true
is_zero at e = grind (arith, common_steps, e)

module _ (m : List ImageBlock) (leaf : Leaf) (ats : List ℕ) (blocks : List (Vec ℕ Global)) (are : AreNumbers m leaf ats blocks) (b at : ℕ) (lt : b < length ats) where
  -- the numbers of another block are as they were
  other_numbers : (c : ℕ) → (c ≡ b → ⊥) → block_numbers m leaf (set ats b at) c ≡ block_numbers m leaf ats c
  other_numbers c ne = ap (λ a. if a == 0 then [] else numbers_at m a 0 (words_in leaf (Some c))) (get_or-set_other ats b c at 0 ne)

  own_numbers : 0 < at → block_numbers m leaf (set ats b at) b ≡ numbers_at m at 0 (words_in leaf (Some b))
  own_numbers some =
      ap (λ a. if a == 0 then [] else numbers_at m a 0 (words_in leaf (Some b))) (get_or-set_same ats b at 0 lt)
      ∙ ap (λ (t : Bool). if t then [] else numbers_at m at 0 (words_in leaf (Some b))) (not_zero at some)

  pub entered : (block : Block) (v : Vec ℕ Global) → 0 < at → slice_get leaf.blocks b ≡ Some block → v.items ≡ numbers_at m at 0 block.words → AreNumbers m leaf (set ats b at) (set blocks b v)
  entered block v some is numbers = record {
    long = length-set blocks b v ∙ are.long ∙ sym (length-set ats b at);
    numbers = each;
  }
    where
      each : (c : ℕ) → items_or_none (slice_get (set blocks b v) c) ≡ block_numbers m leaf (set ats b at) c
      each c = elim (cases_eq c b) [
        | inl e ↦
            let long = are.long in
            subst (λ k. items_or_none (slice_get (set blocks b v) k) ≡ block_numbers m leaf (set ats b at) k) (sym e)
            (items_same blocks b v (omega (arith, lt, long)) ∙ numbers ∙ ap (λ o. numbers_at m at 0 (words_of_block o)) (sym is) ∙ sym (own_numbers some))
        | inr ne ↦ items_other blocks b c v ne ∙ are.numbers c ∙ sym (other_numbers c ne)
      ]

  -- there is no such block
  pub not_entered : 0 < at → slice_index ats b ≡ 0 → slice_get leaf.blocks b ≡ None → AreNumbers m leaf (set ats b at) blocks
  not_entered some unknown none = record {
    long = are.long ∙ sym (length-set ats b at);
    numbers = each;
  }
    where
      own : items_or_none (slice_get blocks b) ≡ block_numbers m leaf (set ats b at) b
      own =
          are.numbers b ∙ ap (λ (t : Bool). if t then [] else numbers_at m (slice_index ats b) 0 (words_in leaf (Some b))) (is_zero (slice_index ats b) unknown)
          ∙ ap (λ o. numbers_at m at 0 (words_of_block o)) (sym none) ∙ sym (own_numbers some)

      each : (c : ℕ) → items_or_none (slice_get blocks c) ≡ block_numbers m leaf (set ats b at) c
      each c = elim (cases_eq c b) [
        | inl e ↦ subst (λ k. items_or_none (slice_get blocks k) ≡ block_numbers m leaf (set ats b at) k) (sym e) own
        | inr ne ↦ are.numbers c ∙ sym (other_numbers c ne)
      ]

-- Words that are not read yet ----------------------------------------------------------------
pub unread_none : (bs : List Block) (n : ℕ) → unread_words bs (replicate n 0) ≡ sum_by (λ (b : Block). length b.words) bs
unread_none [] n = refl
unread_none (b ∷ bs) zero = ap (λ k. length b.words + k) (unread_none bs zero) ∙ sym (sum_by-cons (λ (x : Block). length x.words) b bs)
unread_none (b ∷ bs) (suc n) = ap (λ k. length b.words + k) (unread_none bs n) ∙ sym (sum_by-cons (λ (x : Block). length x.words) b bs)

pub unread_entered : (bs : List Block) (ats : List ℕ) (b at : ℕ) (block : Block) → b < length ats → slice_index ats b ≡ 0 → 0 < at → slice_get bs b ≡ Some block
    → unread_words bs (set ats b at) + length block.words ≡ unread_words bs ats
unread_entered [] ats b at block lt unknown some is = absurd cc
unread_entered (x ∷ bs) [] b at block lt unknown some is = absurd (omega (arith, lt))
unread_entered (x ∷ bs) (a ∷ ats) zero at block lt unknown some is =
    let now : (if at == 0 then length x.words else 0) ≡ 0 = ap (λ (t : Bool). if t then length x.words else 0) (not_zero at some) in
    let before : (if a == 0 then length x.words else 0) ≡ length x.words = ap (λ (t : Bool). if t then length x.words else 0) (is_zero a unknown) in
    let same = ap (λ (y : Block). length y.words) (same_Some x block is) in
    omega (arith, now, before, same)
unread_entered (x ∷ bs) (a ∷ ats) (suc b) at block lt unknown some is =
    let rest = unread_entered bs ats b at block (omega (arith, lt)) unknown some is in omega (arith, rest)

pub unread_set : (bs : List Block) (ats : List ℕ) (b at : ℕ) → slice_index ats b ≡ 0 → unread_words bs (set ats b at) ≤ unread_words bs ats
unread_set [] ats b at unknown = omega arith
unread_set (x ∷ bs) [] b at unknown = omega arith
unread_set (x ∷ bs) (a ∷ ats) zero at unknown =
    let before : (if a == 0 then length x.words else 0) ≡ length x.words = ap (λ (t : Bool). if t then length x.words else 0) (is_zero a unknown) in
    let now = at_most (at == 0) (length x.words) in
    omega (arith, now, before)
  where
    at_most : (t : Bool) (n : ℕ) → (if t then n else 0) ≤ n
    at_most true n = omega arith
    at_most false n = omega arith
unread_set (x ∷ bs) (a ∷ ats) (suc b) at unknown = let rest = unread_set bs ats b at unknown in omega (arith, rest)

-- Pointers -----------------------------------------------------------------------------------
module _ (m : List ImageBlock) (leaf : Leaf) where
  -- no pointer leads to 0
  pub found_above : AreInPlace m → (bits : Kept) (align b at : ℕ) → ◌≡◌ {A = Result ℕ ImageFault} (pointer_lead m leaf bits align b) (Ok at) → 0 < at
  found_above placed bits align b at e = go at (followed_is m leaf [] bits align b at e).1
    where
      go : (a : ℕ) → {n : ℕ} → size_at m a ≡ Some n → 0 < a
      go zero {n} is = absurd (none-some n (sym (ap size_in (none_at_zero m placed)) ∙ is))
      go (suc a) {n} is = omega arith

  module _ (ats : List ℕ) (bits : Kept) (kind : Kind) (align b : ℕ) (is : kind ≡ Pointer align b) where
    opened_kind : follow_kind m leaf ats bits kind ≡ (if slice_index ats b == 0 then with_found ats b (pointer_lead m leaf bits align b) else ats)
    opened_kind = ap (follow_kind m leaf ats bits) is

    pub follow_known : (slice_index ats b ≡ 0 → ⊥) → ats ≡ follow_kind m leaf ats bits kind
    follow_known known = sym (opened_kind ∙ go (slice_index ats b == 0) refl)
      where
        go : (t : Bool) → (slice_index ats b == 0) ≡ t → (if t then with_found ats b (pointer_lead m leaf bits align b) else ats) ≡ ats
        go true e = absurd (known (zero_is (slice_index ats b) e))
        go false e = refl

    pub follow_found : slice_index ats b ≡ 0 → (r : Result ℕ ImageFault) → r ≡ pointer_lead m leaf bits align b → with_found ats b r ≡ follow_kind m leaf ats bits kind
    follow_found unknown r found =
        ap (with_found ats b) found
        ∙ sym (opened_kind ∙ ap (λ (t : Bool). if t then with_found ats b (pointer_lead m leaf bits align b) else ats) (is_zero (slice_index ats b) unknown))
