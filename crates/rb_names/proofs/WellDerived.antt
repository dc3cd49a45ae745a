-- Derived layouts are well numbered.
use Rattle.std.proofs.Common.{◌≡◌, ℕ, zero, suc, ◌+◌, ◌*◌, ◌^◌, ◌<◌, ◌≤◌, List, [], ◌∷◌, map, length, Bool, true, false, nat_lt, nat_le, is_some, Option, Some, None, refl, sym, ◌∙◌, ap, subst, arith}
use Rattle.std.proofs.lemmas.Grind.{common_steps}
use Rattle.std.proofs.lemmas.Bool.{leb-true, and_from}
use Rattle.std.proofs.lemmas.List.Sums.{sum_by-cons}
use Rattle.std.specs.Prelude.{slice_get, if◌then◌else◌}
use Rattle.std.specs.List.{list_all, sum_by}
use Rattle.rb_core.specs.declared.types.Ty.{Ty}
use Rattle.rb_core.specs.declared.types.Con.{Con}
use Rattle.rb_core.specs.declared.types.ConRef.{ConRef}
use Rattle.rb_core.specs.declared.types.DataDecl.{DataDecl}
use Rattle.rb_core.specs.declared.pattern.Pat.TheVariants as P
use Rattle.rb_core.specs.declared.program.Program.{Program}
use Rattle.rb_core.specs.declared.layout_decl.LayItem.{LayItem}
use Rattle.rb_core.specs.declared.layout_decl.LayItem.TheVariants as I
use Rattle.rb_core.specs.declared.layout_decl.PartDecl.{PartDecl}
use Rattle.rb_core.specs.declared.layout_decl.PartKind.{PartKind}
use Rattle.rb_core.specs.declared.layout_decl.PartKind.TheVariants as K
use Rattle.rb_core.specs.declared.layout_decl.LayTree.TheVariants as S
use Rattle.rb_core.specs.Layouts as lay
use Rattle.rb_core.specs.Layouts.{WrittenLeaf, leaves, provenances, is_short, counts_in, leaf_is_short}
use Rattle.rb_core.specs.Values.{fields_in, fields_of_con}
use Rattle.rb_core.specs.WellNumbered.{IsWellNumbered, below_step, is_constructor, layout_is_numbered, may_be_below, numbered_pattern_step, Below, provenance_is_numbered}
use Rattle.rb_core.proofs.PatternLaws.{fold-Wild}
use Rattle.rb_layout.proofs.FlatForms as flat
use Rattle.rb_auto.specs.declared.field_words.FieldWord.{FieldWord}
use Rattle.rb_auto.specs.declared.form.Form.{Form}
use Rattle.rb_auto.specs.declared.form.Form.TheVariants.{Boxed, Packed}
use Rattle.rb_auto.specs.declared.room.Room.{Room}
use Rattle.rb_auto.specs.Fields.{cons_in, cons_of}
use Rattle.rb_auto.specs.FieldWords.{content, content_in, constructor_words}
use Rattle.rb_auto.specs.Items.{block_items, boxed_parts, field_item, form_parts, form_tag, form_width, group_item, groups, leaf_items, packed_parts, part, parts_from, pointer_parts, whole_word}
use Rattle.rb_auto.specs.Derived.{arms_from, derived_layout, leaf, provenance, tag_loc, tree_of}
use Rattle.rb_auto.proofs.Leaves.{leaves_from, tree-leaves}
use Rattle.rb_auto.proofs.Lists.{IsGroup, are-groups, few-groups}
use Rattle.rb_auto.proofs.Numbering.{TypeIsSmall, type-is-small, words-count}
use Rattle.rb_names.specs.declared.tables.Tables.{Tables}
use Rattle.rb_names.specs.Tables.{Name, meaning}
use Rattle.rb_names.proofs.WellLists.{Each, each-passes, length-of-map}
use Rattle.rb_names.proofs.WellLeaves.{counted, counted-all, counted-Const, counted-part, counted-PartWord, counted-Pointer, counted-Whole, counted-Word, few-short, kind_counted, part_counted, short-round}
use Rattle.rb_names.proofs.WellLayouts.{short-arm, short-Leaf, short-None, tree_short, under_short}
use Rattle.rb_names.proofs.WellProvenances.{IsBelow, con-good, short-of}

-- No derived leaf comes to more items and parts than these ---------------------------------------

abbrev most : ℕ
most = 600

small : most < 2 ^ 32
small = omega arith

record Few (n : ℕ) (c : lay.ItemCounts) : Type 0 where
  few : counted c ≤ n
  short : c.short ≡ true

few-as : (n : ℕ) (c d : lay.ItemCounts) → c ≡ d → Few n d → Few n c
few-as n c d e f = subst (Few n) (sym e) f

module _ {A : Type 0} (f : A → lay.ItemCounts) (n : ℕ) where
  sum-few : (xs : List A) → Each (λ x. Few n (f x)) xs → sum_by (λ x. counted (f x)) xs ≤ n * length xs
  sum-few [] h = omega arith
  sum-few (x ∷ xs) h = let one = h.0.few in omega (arith, sum-few xs h.1, one, sum_by-cons (λ x. counted (f x)) x xs)

  each-short : (xs : List A) → Each (λ x. Few n (f x)) xs → Each (λ x. (f x).short ≡ true) xs
  each-short [] h = tt
  each-short (x ∷ xs) h = (h.0.short, each-short xs h.1)

-- A part and a word with one part.

part-few : (o l n : ℕ) (kind : PartKind) → Few n (kind_counted kind) → Few (n + 1) (part_counted (part o l kind))
part-few o l n kind f =
    few-as (n + 1) _ _ (counted-part (part o l kind)) (record { few = (let h = f.few in omega (arith, h)); short = f.short })

word-few : (width n : ℕ) (parts : List PartDecl) → length parts ≤ most → Each (λ p. (part_counted p).short ≡ true) parts → sum_by (λ p. counted (part_counted p)) parts ≤ n
    → Few (n + 1) (counts_in (I.Word width parts))
word-few width n parts long good h =
    few-as (n + 1) _ _ (counted-Word width parts) (record { few = omega (arith, counted-all part_counted parts, h); short = short-round most small 1 0 part_counted parts long good })

one-part : (l n : ℕ) (kind : PartKind) → Few n (kind_counted kind) → Few (n + 1 + 1) (counts_in (whole_word l kind))
one-part l n kind f =
    let p = part-few 0 l n kind f in
    let few = p.few in
    word-few 64 (n + 1) (part 0 l kind ∷ []) (omega arith) (p.short, tt) (omega (arith, few, sum_by-cons (λ (q : PartDecl). counted (part_counted q)) (part 0 l kind) []))

content-few : (w : FieldWord) → Few 0 (kind_counted (content w))
content-few w = by w.word
  where
    by : (word : Option ℕ) → Few 0 (kind_counted (content_in w.field word))
    by None = few-as 0 _ _ (counted-Whole (w.field ∷ [])) (record { few = omega arith; short = refl })
    by (Some j) = few-as 0 _ _ (counted-PartWord (w.field ∷ []) j) (record { few = omega arith; short = refl })

-- Blocks -----------------------------------------------------------------------------------------

pointer-few : (align n : ℕ) (items : List LayItem) → length items ≤ most → Each (λ i. (counts_in i).short ≡ true) items → sum_by (λ i. counted (counts_in i)) items ≤ n
    → Few n (kind_counted (K.Pointer align items))
pointer-few align n items long good h =
    few-as n _ _ (counted-Pointer align items) (record { few = omega (arith, counted-all counts_in items, h); short = short-round most small 0 0 counts_in items long good })

fields-few : (ws : List FieldWord) → Each (λ i. Few 2 (counts_in i)) (map field_item ws)
fields-few [] = tt
fields-few (w ∷ ws) = (one-part w.width 0 (content w) (content-few w), fields-few ws)

-- the items of a block
record IsBlock (n : ℕ) (items : List LayItem) : Type 0 where
  long : length items ≤ 64
  few : sum_by (λ i. counted (counts_in i)) items ≤ n
  good : Each (λ i. (counts_in i).short ≡ true) items

fields-block : (ws : List FieldWord) → length ws ≤ 64 → IsBlock 128 (map field_item ws)
fields-block ws le =
    let same : length (map field_item ws) ≡ length ws = length-of-map field_item ws in
    let sum = sum-few counts_in 2 (map field_item ws) (fields-few ws) in
    record { long = omega (arith, same, le); few = omega (arith, sum, same, le); good = each-short counts_in 2 (map field_item ws) (fields-few ws) }

group-few : (g : List FieldWord) → length g ≤ 64 → Few 130 (counts_in (group_item g))
group-few g le =
    let b = fields-block g le in
    let long = b.long in
    one-part 64 128 (K.Pointer 8 (map field_item g)) (pointer-few 8 128 (map field_item g) (omega (arith, long)) b.good b.few)

groups-few : (gs : List (List FieldWord)) → flat.Each IsGroup gs → Each (λ i. Few 130 (counts_in i)) (map group_item gs)
groups-few [] h = tt
groups-few (g ∷ gs) h = (group-few g h.0.1, groups-few gs h.1)

groups-block : (gs : List (List FieldWord)) → flat.Each IsGroup gs → length gs ≤ 4 → IsBlock 520 (map group_item gs)
groups-block gs h le =
    let same : length (map group_item gs) ≡ length gs = length-of-map group_item gs in
    let sum = sum-few counts_in 130 (map group_item gs) (groups-few gs h) in
    record { long = omega (arith, same, le); few = omega (arith, sum, same, le); good = each-short counts_in 130 (map group_item gs) (groups-few gs h) }

block-few : (ws : List FieldWord) → length ws ≤ 256 → IsBlock 520 (block_items ws)
block-few ws le = by (nat_le (length ws) 64) refl
  where
    by : (b : Bool) → nat_le (length ws) 64 ≡ b → IsBlock 520 (if b then map field_item ws else map group_item (groups (length ws) ws))
    by true e =
        let block = fields-block ws (leb-true (length ws) 64 e) in
        let few = block.few in
        record { long = block.long; few = omega (arith, few); good = block.good }
    by false e = groups-block (groups (length ws) ws) (are-groups (length ws) ws) (few-groups (length ws) 4 ws (omega (arith, le)))

-- Leaves -----------------------------------------------------------------------------------------

-- the parts of a leaf's word
record AreParts (n : ℕ) (parts : List PartDecl) : Type 0 where
  long : length parts ≤ n
  few : sum_by (λ p. counted (part_counted p)) parts ≤ n
  good : Each (λ p. (part_counted p).short ≡ true) parts

one-more : (n m : ℕ) (p : PartDecl) (parts : List PartDecl) → Few m (part_counted p) → 1 ≤ m → AreParts n parts → AreParts (m + n) (p ∷ parts)
one-more n m p parts f some are =
    let long = are.long in
    let few = are.few in
    let here = f.few in
    record {
      long = omega (arith, long, some);
      few = omega (arith, few, here, sum_by-cons (λ (q : PartDecl). counted (part_counted q)) p parts);
      good = (f.short, are.good);
    }

no-parts : AreParts 0 []
no-parts = record { long = omega arith; few = omega arith; good = tt }

const-few : (n : ℕ) → Few 0 (kind_counted (K.Const n))
const-few n = few-as 0 _ _ (counted-Const n) (record { few = omega arith; short = refl })

boxed-few : (k : ℕ) (ws : List FieldWord) → length ws ≤ 256 → AreParts 522 (boxed_parts k ws)
boxed-few k ws le = one-more 521 1 (part 0 8 (K.Const k)) (pointer_parts ws) (part-few 0 8 0 (K.Const k) (const-few k)) (omega arith) (pointers ws le)
  where
    pointers : (ws : List FieldWord) → length ws ≤ 256 → AreParts 521 (pointer_parts ws)
    pointers [] le = record { long = omega arith; few = omega arith; good = tt }
    pointers (w ∷ ws) le =
        let b = block-few (w ∷ ws) le in
        let long = b.long in
        one-more 0 521 (part 8 56 (K.Pointer 8 (block_items (w ∷ ws)))) []
        (part-few 8 56 520 (K.Pointer 8 (block_items (w ∷ ws))) (pointer-few 8 520 (block_items (w ∷ ws)) (omega (arith, long)) b.good b.few)) (omega arith) no-parts

words-few : (o : ℕ) (ws : List FieldWord) → AreParts (length ws) (parts_from o ws)
words-few o [] = no-parts
words-few o (w ∷ ws) =
    let rest = words-few (o + w.width) ws in
    let more = one-more (length ws) 1 (part o w.width (content w)) (parts_from (o + w.width) ws) (part-few o w.width 0 (content w) (content-few w)) (omega arith) rest in
    let long = more.long in
    let few = more.few in
    record { long = omega (arith, long); few = omega (arith, few); good = more.good }

wider : (n m : ℕ) (parts : List PartDecl) → n ≤ m → AreParts n parts → AreParts m parts
wider n m parts le are = let long = are.long in let few = are.few in record { long = omega (arith, long, le); few = omega (arith, few, le); good = are.good }

packed-few : (tag k : ℕ) (ws : List FieldWord) → length ws ≤ 256 → AreParts 522 (packed_parts tag k ws)
packed-few zero k ws le = wider (length ws) 522 (parts_from 0 ws) (omega (arith, le)) (words-few 0 ws)
packed-few (suc tag) k ws le =
    wider (1 + length ws) 522 (packed_parts (suc tag) k ws) (omega (arith, le))
    (one-more (length ws) 1 (part 0 (suc tag) (K.Const k)) (parts_from (suc tag) ws) (part-few 0 (suc tag) 0 (K.Const k) (const-few k)) (omega arith) (words-few (suc tag) ws))

parts-few : (form : Form) (k : ℕ) (ws : List FieldWord) → length ws ≤ 256 → AreParts 522 (form_parts form k ws)
parts-few Boxed k ws le = boxed-few k ws le
parts-few (Packed tag width) k ws le = packed-few tag k ws le

leaf-short : (form : Form) (k : ℕ) (ws : List FieldWord) → length ws ≤ 256 → leaf_is_short (leaf_items form k ws) ≡ true
leaf-short form k ws le =
    let are = parts-few form k ws le in
    let long = are.long in
    let word = word-few (form_width form) 522 (form_parts form k ws) (omega (arith, long)) are.good are.few in
    let few = word.few in
    few-short most small (leaf_items form k ws) (omega arith) (omega (arith, few, sum_by-cons (λ (i : LayItem). counted (counts_in i)) (I.Word (form_width form) (form_parts form k ws)) []))
    (word.short, tt)

-- Provenances ------------------------------------------------------------------------------------

abbrev no_tables : Tables
no_tables = record { types = []; constructors = []; functions = [] }

module _ (types : List DataDecl) where
  none-known : (name : Name) (c : ConRef) → meaning no_tables.constructors name ≡ Some c → is_constructor types c ≡ true
  none-known name c e = absurd cc

  wilds-good : (tys : List Ty) → Each (IsBelow most small types no_tables none-known) (map (λ (ty : Ty). P.Wild 0) tys)
  wilds-good [] = tt
  wilds-good (ty ∷ tys) = ((ap may_be_below (fold-Wild Below below_step 0), fold-Wild Bool (numbered_pattern_step types) 0), wilds-good tys)

  constructor-there : (d : Option DataDecl) (k : ℕ) (c : Con) → slice_get (cons_in d) k ≡ Some c → is_some (fields_in d k) ≡ true
  constructor-there None k c e = absurd cc
  constructor-there (Some d) k c e = ap (λ (o : Option Con). is_some (fields_of_con o)) e

  provenance-good : (t k : ℕ) (c : Con) → slice_get (cons_of types t) k ≡ Some c → length c.fields ≤ 32 → provenance_is_numbered types (provenance t k c) ≡ true
  provenance-good t k c at few =
      let same : length (map (λ (ty : Ty). P.Wild 0) c.fields) ≡ length c.fields = length-of-map (λ (ty : Ty). P.Wild 0) c.fields in
      con-good most small types no_tables none-known 0 (record { ty = t; con = k }) (map (λ (ty : Ty). P.Wild 0) c.fields)
      (constructor-there (slice_get types t) k c at) (omega (arith, same, few)) (wilds-good c.fields)

-- Layouts ----------------------------------------------------------------------------------------

module _ (p : Program) (numbered : IsWellNumbered p) (rooms : List Room) (t : ℕ) (lt : t < length p.types) (form : Form) where
  -- constructors of the type, the first of which has the number k
  abbrev AreCons : ℕ → List Con → Type 0
  AreCons k cs = (n : ℕ) (c : Con) → slice_get cs n ≡ Some c → (slice_get (cons_of p.types t) (k + n) ≡ Some c) × (length c.fields ≤ 32)

  first-con : (k : ℕ) (c : Con) (cs : List Con) → AreCons k (c ∷ cs) → (slice_get (cons_of p.types t) k ≡ Some c) × (length c.fields ≤ 32)
  first-con k c cs h = let f = h 0 c refl in (ap (slice_get (cons_of p.types t)) (none_more k) ∙ f.0, f.1)
    where
      none_more : (n : ℕ) → n ≡ n + 0
      none_more n = omega arith

  other-cons : (k : ℕ) (c : Con) (cs : List Con) → AreCons k (c ∷ cs) → AreCons (k + 1) cs
  other-cons k c cs h n d at = let f = h (suc n) d at in (ap (slice_get (cons_of p.types t)) (one_more k n) ∙ f.0, f.1)
    where
      one_more : (k n : ℕ) → k + 1 + n ≡ k + suc n
      one_more k n = omega arith

  provenances-good : (k : ℕ) (cs : List Con) → AreCons k cs → list_all (provenance_is_numbered p.types) (map (λ l. l.provenance) (leaves_from p rooms t form k cs)) ≡ true
  provenances-good k [] h = refl
  provenances-good k (c ∷ cs) h =
      let f = first-con k c cs h in and_from _ _ (provenance-good p.types t k c f.0 f.1) (provenances-good (k + 1) cs (other-cons k c cs h))

  leaf-good : (k : ℕ) (c : Con) → length c.fields ≤ 32 → tree_short (leaf p rooms t form k c) ≡ true
  leaf-good k c few =
      short-Leaf 0 (provenance t k c) (leaf_items form k (constructor_words p rooms c.fields)) ∙ leaf-short form k (constructor_words p rooms c.fields) (words-count p numbered rooms c few)

  arms-good : (k : ℕ) (cs : List Con) → AreCons k cs → Each (λ a. under_short a ≡ true) (arms_from p rooms t form k cs)
  arms-good k [] h = tt
  arms-good k (c ∷ cs) h =
      (short-arm (record { literal = k; under = leaf p rooms t form k c }) ∙ leaf-good k c (first-con k c cs h).1, arms-good (k + 1) cs (other-cons k c cs h))

  arms-count : (k : ℕ) (cs : List Con) → length (arms_from p rooms t form k cs) ≡ length cs
  arms-count k [] = refl
  arms-count k (c ∷ cs) = ap suc (arms-count (k + 1) cs)

  leaves-count : (k : ℕ) (cs : List Con) → length (leaves_from p rooms t form k cs) ≡ length cs
  leaves-count k [] = refl
  leaves-count k (c ∷ cs) = ap suc (leaves-count (k + 1) cs)

  split-good : (tag : ℕ) (cs : List Con) → length cs ≤ 256 → AreCons 0 cs → tree_short (S.Split (tag_loc tag) (arms_from p rooms t form 0 cs) None) ≡ true
  split-good tag cs few h =
      let arms = arms_from p rooms t form 0 cs in
      let same : length (map under_short arms) ≡ length arms = length-of-map under_short arms in
      short-None (tag_loc tag) arms
      ∙ and_from _ _ refl (and_from _ _ (short-of most small (map under_short arms) (omega (arith, same, arms-count 0 cs, few))) (and_from _ _ (each-passes under_short (λ b. b) arms (arms-good 0 cs h)) refl))

  tree-good : (tag : ℕ) (cs : List Con) → length cs ≤ 256 → AreCons 0 cs → tree_short (tree_of p rooms t form tag cs) ≡ true
  tree-good zero [] few h = split-good zero [] few h
  tree-good zero (c ∷ []) few h = leaf-good 0 c (first-con 0 c [] h).1
  tree-good zero (c ∷ d ∷ cs) few h = split-good zero (c ∷ d ∷ cs) few h
  tree-good (suc tag) cs few h = split-good (suc tag) cs few h

  -- what is derived for a type of a well numbered program is a layout of that program
  pub derived-well : layout_is_numbered p.types (derived_layout p rooms t form) ≡ true
  derived-well =
      let cs = cons_of p.types t in
      let is_small : TypeIsSmall p numbered cs = type-is-small p numbered t lt in
      let few = is_small.few in
      let are : AreCons 0 cs = λ n c at. (ap (slice_get cs) (none_before n) ∙ at, (is_small.each n c at).few) in
      let its = tree-leaves p rooms t form (form_tag form) cs in
      let shown : list_all (provenance_is_numbered p.types) (provenances (derived_layout p rooms t form).tree) ≡ true =
      ap (λ (ls : List WrittenLeaf). list_all (provenance_is_numbered p.types) (map (λ l. l.provenance) ls)) its ∙ provenances-good 0 cs are in
      let long : is_short (leaves (derived_layout p rooms t form).tree) ≡ true =
      ap (λ (ls : List WrittenLeaf). is_short ls) its ∙ short-of most small (leaves_from p rooms t form 0 cs) (omega (arith, leaves-count 0 cs, few)) in
      and_from _ _ (below t (length p.types) lt) (and_from _ _ refl (and_from _ _ shown (and_from _ _ long (tree-good (form_tag form) cs few are))))
    where
      none_before : (n : ℕ) → 0 + n ≡ n
      none_before n = omega arith

      below : (a b : ℕ) → a < b → nat_lt a b ≡ true
      below a b h = grind (arith, common_steps, h)
