-- The tag of a derived layout is known in each of its leaves.
use Rattle.std.proofs.Common.{◌≡◌, ℕ, zero, suc, ◌+◌, ◌-◌, ◌*◌, ◌/◌, ◌%◌, ◌^◌, ◌<◌, ◌≤◌, List, [], ◌∷◌, ◌++◌, length, map, Bool, true, Option, Some, None, refl, sym, ap, subst, ◌∙◌, arith}
use Rattle.std.specs.Prelude.{slice_get, leb, ltb, ◌&&◌, if◌then◌else◌}
use Rattle.std.specs.Option.{option_or}
use Rattle.std.specs.Int.{bit_at}
use Rattle.std.proofs.lemmas.Bool.{le-leb, lt-ltb, and_from}
use Rattle.std.proofs.Math.Nat.{mod-eq_of_lt}
use Rattle.std.proofs.lemmas.Nat.{mod-pow-add, shr-shr}
use Rattle.std.proofs.lemmas.Option.{slice_get_within}
use Rattle.rb_core.specs.declared.types.Con.{Con}
use Rattle.rb_core.specs.declared.program.Program.{Program}
use Rattle.rb_core.specs.declared.layout_decl.LayoutDecl.{LayoutDecl}
use Rattle.rb_core.specs.declared.layout_decl.PartDecl.{PartDecl}
use Rattle.rb_core.specs.declared.layout_decl.PartKind.TheVariants as K
use Rattle.rb_layout.specs.declared.layout.Layout.{Layout}
use Rattle.rb_layout.specs.declared.layout.Leaf.{Leaf}
use Rattle.rb_layout.specs.declared.layout.FlatWord.{FlatWord}
use Rattle.rb_layout.specs.declared.layout.Part.{Part}
use Rattle.rb_layout.specs.declared.layout.Kind.{Kind}
use Rattle.rb_layout.specs.declared.layout.Kind.TheVariants.{Const}
use Rattle.rb_layout.specs.Locations.{Reached, constant_bit, constant_bits, known_in, range_in, reached_at, with_bit}
use Rattle.rb_layout.specs.Splits.{Test, Is}
use Rattle.rb_layout.specs.Flattening.{WithBlocks, in_turn, part_laid, parts_of, flat_leaf}
use Rattle.rb_layout.specs.A7.{MeetsTest}
use Rattle.rb_layout.proofs.Computing.{part_at, const_at}
use Rattle.rb_auto.specs.declared.field_words.FieldWord.{FieldWord}
use Rattle.rb_auto.specs.declared.form.Form.{Form}
use Rattle.rb_auto.specs.declared.form.Form.TheVariants.{Boxed, Packed}
use Rattle.rb_auto.specs.declared.room.Room.{Room}
use Rattle.rb_auto.specs.Fields.{cons_of}
use Rattle.rb_auto.specs.FieldWords.{constructor_words}
use Rattle.rb_auto.specs.Items.{form_parts, form_tag, form_width, part, parts_from, pointer_parts}
use Rattle.rb_auto.specs.Derived.{tag_loc}
use Rattle.rb_auto.specs.inner.Rules.{MeetsItsTests}
use Rattle.rb_auto.proofs.Leaves.{leaf-is, leaf_at, opens_at, parts_at, root-is}
use Rattle.rb_auto.proofs.Splitting.{test-is}

-- The bits of a constant at the head of a word's parts ---------------------------------------------------

module _ (n tag : ℕ) (ps : List Part) where
  abbrev the_parts : List Part
  the_parts = record { o = 0; l = tag; kind = Const n } ∷ ps

  one-bit : (o : ℕ) → o < tag → constant_bit the_parts o ≡ Some (bit_at n o)
  one-bit o lt =
      let inside : (leb 0 o && ltb o (0 + tag)) ≡ true = and_from (leb 0 o) (ltb o (0 + tag)) (le-leb 0 o (omega arith)) (lt-ltb o (0 + tag) (omega (arith, lt))) in
      let from : o - 0 ≡ o = omega arith in
      ap (λ (b : Bool). option_or (if b then Some (bit_at n (o - 0)) else None) (constant_bit ps o)) inside ∙ ap (λ i. Some (bit_at n i)) from

  more : (o l : ℕ) → bit_at n o + 2 * ((n / 2 ^ (o + 1)) % 2 ^ l) ≡ (n / 2 ^ o) % 2 ^ (suc l)
  more o l =
      let split = mod-pow-add (n / 2 ^ o) l 1 in
      let next : n / 2 ^ o / 2 ^ 1 ≡ n / 2 ^ (o + 1) = shr-shr n o 1 in
      let long : l + 1 ≡ suc l = omega arith in
      let whole : (n / 2 ^ o) % 2 ^ (suc l) ≡ (n / 2 ^ (o + 1) % 2 ^ l) * 2 ^ 1 + (n / 2 ^ o) % 2 ^ 1 =
      ap (λ k. (n / 2 ^ o) % 2 ^ k) (sym long) ∙ split ∙ ap (λ m. (m % 2 ^ l) * 2 ^ 1 + (n / 2 ^ o) % 2 ^ 1) next in
      omega (arith, whole)

  bits-are : (o l : ℕ) → o + l ≤ tag → constant_bits the_parts o l ≡ Some ((n / 2 ^ o) % 2 ^ l)
  bits-are o zero le = ap (λ m. Some m) (none (n / 2 ^ o))
    where
      none : (m : ℕ) → 0 ≡ m % 2 ^ 0
      none m = omega arith
  bits-are o (suc l) le =
      ap (λ b. with_bit b (constant_bits the_parts (o + 1) l)) (one-bit o (omega arith))
      ∙ ap (λ r. with_bit (Some (bit_at n o)) r) (bits-are (o + 1) l (omega arith)) ∙ ap (λ m. Some m) (more o l)

  all-bits : n < 2 ^ tag → constant_bits the_parts 0 tag ≡ Some n
  all-bits lt = bits-are 0 tag (omega arith) ∙ ap (λ m. Some (m % 2 ^ tag)) whole ∙ ap (λ m. Some m) (mod-eq_of_lt lt)
    where
      whole : n / 2 ^ 0 ≡ n
      whole = omega arith

-- The tag is the first part ------------------------------------------------------------------------------

abbrev later_parts : Form → List FieldWord → List PartDecl
later_parts Boxed ws = pointer_parts ws
later_parts (Packed tag width) ws = parts_from tag ws

tag-first : (form : Form) (k : ℕ) (ws : List FieldWord) → 0 < form_tag form → form_parts form k ws ≡ part 0 (form_tag form) (K.Const k) ∷ later_parts form ws
tag-first Boxed k ws lt = refl
tag-first (Packed zero width) k ws lt = absurd (omega (arith, lt))
tag-first (Packed (suc tag) width) k ws lt = refl

module _ (p : Program) (decls : List LayoutDecl) (rooms : List Room) (t : ℕ) (form : Form) (n : ℕ) (c : Con) (some : 0 < form_tag form) where
  tag-laid : part_laid decls (opens_at p rooms t form decls n c) (part 0 (form_tag form) (K.Const n)) 0
      ≡ record { it = record { o = 0; l = form_tag form; kind = Const n } ∷ []; blocks = [] }
  tag-laid =
      part_at decls (opens_at p rooms t form decls n c) 0 (part 0 (form_tag form) (K.Const n))
      ∙ ap (λ (laid : WithBlocks (Option Kind)). record { it = parts_of 0 (form_tag form) laid.it; blocks = laid.blocks }) (const_at decls (opens_at p rooms t form decls n c) 0 n)

  parts-are : (ps : List Part) × ((parts_at p rooms t form decls n c).it ≡ record { o = 0; l = form_tag form; kind = Const n } ∷ ps)
  parts-are =
      let opens = opens_at p rooms t form decls n c in
      let later = map (part_laid decls opens) (later_parts form (constructor_words p rooms c.fields)) in (
        (in_turn later 0).it,
        ap (λ (ds : List PartDecl). (in_turn (map (part_laid decls opens) ds) 0).it) (tag-first form n (constructor_words p rooms c.fields) some)
            ∙ ap (λ (laid : WithBlocks (List Part)). laid.it ++ (in_turn later (0 + length laid.blocks)).it) tag-laid,
      )

  -- the tag resolves, and is the constructor's number
  pub meets-tag : (leaf : Leaf) → leaf ≡ flat_leaf p.types decls (leaf_at p rooms t form n c) → form_tag form ≤ form_width form → n < 2 ^ form_tag form → (layouts : List Layout)
      → MeetsTest p.types layouts leaf (Is (tag_loc (form_tag form)) n)
  meets-tag leaf is fits lt layouts =
      let tag = form_tag form in
      let ps = parts-are in
      let word : FlatWord = record { width = form_width form; parts = record { o = 0; l = tag; kind = Const n } ∷ ps.0 } in
      let root : leaf.root ≡ word ∷ [] =
      ap (λ (l : Leaf). l.root) is ∙ root-is p rooms t form decls n c ∙ ap (λ (qs : List Part). record { width = form_width form; parts = qs } ∷ []) ps.1 in
      let x : Reached = record { ref = record { block = None; word = 0 }; word = word; o = 0; l = tag } in
      let within : (leb 1 tag && leb (0 + tag) (form_width form)) ≡ true =
      and_from (leb 1 tag) (leb (0 + tag) (form_width form)) (le-leb 1 tag (omega (arith, some))) (le-leb (0 + tag) (form_width form) (omega (arith, fits))) in
      let reached : reached_at leaf (tag_loc tag) ≡ Some x =
      ap (λ (ws : List FlatWord). range_in (slice_get ws 0) (record { block = None; word = 0 }) 0 tag) root ∙ ap (λ (b : Bool). if b then Some x else None) within in
      ((x, reached), ap known_in reached ∙ all-bits n tag ps.0 lt)

pub meets-its-tests : MeetsItsTests
meets-its-tests p decls rooms t form fits layouts n leaf e test above =
    let c = leaf-is p rooms t form decls n leaf e in
    let one = test-is p rooms t form (form_tag form) (cons_of p.types t) fits.some fits.told above.route_number above.route above.number n test above.is_route above.leads above.is_test in
    let lt = slice_get_within (cons_of p.types t) n c.0 c.1 in
    subst (λ (x : Test). MeetsTest p.types layouts leaf x) (sym one.1)
    (meets-tag p decls rooms t form n c.0 one.0 leaf c.2 fits.tag (let told = fits.told in omega (arith, lt, told)) layouts)
