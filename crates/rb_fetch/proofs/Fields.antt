-- The reads of a field mean words that represent the part of a value there.
use Rattle.std.proofs.Common.{◌≡◌, ℕ, zero, suc, ◌+◌, ◌<◌, ◌≤◌, ◌⊎◌, inl, inr, List, [], ◌∷◌, ◌++◌, length, map, true, Option, Some, None, refl, sym, subst, ap, ◌∙◌, arith, length-append}
use Rattle.std.specs.Prelude.{slice_get, slice_index, nat_le}
use Rattle.std.proofs.lemmas.Bool.{and_parts}
use Rattle.std.proofs.lemmas.Bool.Decides.{nat_tests}
use Rattle.std.proofs.lemmas.List.{length-map}
use Rattle.std.proofs.lemmas.Option.{same_Some, slice_get_within}
use Rattle.rb_bits.specs.Words.{take_of}
use Rattle.rb_bits.proofs.RangeLemmas.{take_whole}
use Rattle.rb_bytes.specs.Memory.{Memory}
use Rattle.rb_core.specs.declared.types.Ty.{Ty}
use Rattle.rb_core.specs.declared.types.Ty.TheVariants.{Int, Named}
use Rattle.rb_core.specs.declared.program.Program.{Program}
use Rattle.rb_core.specs.TypedPrograms.{IsTyped}
use Rattle.rb_target.specs.Meaning.{slots_at}
use Rattle.rb_target.specs.Sheet.{Sheet}
use Rattle.rb_layout.specs.declared.agreed.LaidOut.{LaidOut}
use Rattle.rb_layout.specs.declared.layout.Layout.{Layout}
use Rattle.rb_layout.specs.declared.layout.Leaf.{Leaf}
use Rattle.rb_layout.specs.declared.layout.FlatWord.{FlatWord}
use Rattle.rb_layout.specs.Agreement.{Agrees, AreAgreed}
use Rattle.rb_layout.specs.Flattening.{flat_layouts, type_at}
use Rattle.rb_layout.specs.Positions.{Open, open_positions, layout_of}
use Rattle.rb_layout.proofs.OpenPositions.{position-typed}
use Rattle.rb_rel.specs.Relation.{shape_length, word_count}
use Rattle.rb_rel.proofs.Agreeing.{lawful}
use Rattle.rb_rel.proofs.Lists.{get-append-at}
use Rattle.rb_rel.proofs.Represented.{Represents-int, Represents-count, opened_at}
use Rattle.rb_rel.proofs.Widths.{positions_typed}
use Rattle.rb_fragment.specs.declared.reads.Read.{Read, Slot}
use Rattle.rb_fragment.specs.Plan.{Plan, Rep, words_needed}
use Rattle.rb_fragment.specs.Slots.{IsOneOf}
use Rattle.rb_fragment.specs.Reads.{mean, fits}
use Rattle.rb_fragment.specs.WordReads.{AreMeant, AllFit, IsSlotOf, MakesAll, AreNewOr}
use Rattle.rb_fragment.proofs.MakingAll.{slots_fit, slots_meant, slots_of}
use Rattle.rb_fetch.specs.Finding.{IsPlanOf, leaf_within}
use Rattle.rb_fetch.specs.Fields.{FieldAt, AreFieldReads, ReadsField}
use Rattle.rb_fetch.specs.inner.Placing.{IsAgreedLeaf}
use Rattle.rb_fetch.specs.inner.Rebuilding.{FetchesOpen}
use Rattle.rb_fetch.specs.inner.Fields.{HoldsInt, ReadsAs, ReadsInt, ReadsWord, ReadWords, leaf_at}
use Rattle.rb_fetch.proofs.Finding.{of_plan}
use Rattle.rb_fetch.proofs.Fitting.{root_widths}
use Rattle.rb_fetch.proofs.Spans.{unit_there}

-- Lists of reads

pub words_more : (leaf : Leaf) (words : List Read) (path : List ℕ) (ty j : ℕ) (reads : List Read) (read : Read) → ReadWords leaf words path ty j reads → ReadsWord leaf words path ty j read
    → ReadWords leaf words path ty (j + 1) (reads ++ read ∷ [])
words_more leaf words path ty j reads read before last = record {
  count_is = length-append reads (read ∷ []) ∙ ap (λ n. n + 1) before.count_is;
  each = λ k r e. elim (get-append-at reads (read ∷ []) k r e) [
    | inl h ↦ before.each k r h
    | inr h ↦ at_last k r h.0 h.1 h.2
  ];
}
  where
    at_last : (k : ℕ) (r : Read) (i : ℕ) → slice_get (read ∷ []) i ≡ Some r → k ≡ length reads + i → ReadsWord leaf words path ty k r
    at_last k r zero e n =
        let same : read ≡ r = same_Some read r e in
        let at : j ≡ k = omega (arith, n, before.count_is) in
        subst (λ i. ReadsWord leaf words path ty i r) at (subst (λ q. ReadsWord leaf words path ty j q) same last)
    at_last k r (suc i) e n = absurd cc

each_meant : (reads : List Read) (ws s : List ℕ) (m : Memory) → length ws ≡ length reads → ((j : ℕ) (r : Read) → slice_get reads j ≡ Some r → mean r s m ≡ Some (slice_index ws j)) → AreMeant reads s m ws
each_meant [] [] s m n each = tt
each_meant [] (w ∷ ws) s m n each = absurd (omega (arith, n))
each_meant (r ∷ reads) [] s m n each = absurd (omega (arith, n))
each_meant (r ∷ reads) (w ∷ ws) s m n each = (each 0 r refl, each_meant reads ws s m (omega (arith, n)) (λ j q e. each (suc j) q e))

each_fit : (k : ℕ) (reads : List Read) → ((j : ℕ) (r : Read) → slice_get reads j ≡ Some r → fits k r ≡ true) → AllFit k reads
each_fit k [] each = tt
each_fit k (r ∷ reads) each = (each 0 r refl, each_fit k reads (λ j q e. each (suc j) q e))

slot_at : (reads : List Read) (x : ℕ) → IsSlotOf x reads → (j : ℕ) × (slice_get reads j ≡ Some (Slot x))
slot_at [] x h = absurd h
slot_at (r ∷ reads) x (inl e) = (0, ap Some e)
slot_at (r ∷ reads) x (inr h) = let g = slot_at reads x h in (suc g.0, g.1)

-- Fields

module _ (plan : Plan) (typed : IsTyped plan.program) (agreed : AreAgreed plan.program plan.layouts) (t n : ℕ) (path : List ℕ) (ty : Ty) (f : FieldAt plan t n path ty) (words : List Read)
    (count : length words ≡ words_needed plan (Named t)) where
  is_layout : layout_of (flat_layouts plan.program) t ≡ Some f.layout
  is_layout = ap (λ ls. layout_of ls t) (sym agreed.0) ∙ f.is_layout

  roots : length words ≡ length f.leaf.root
  roots =
      let root : length f.leaf.root ≡ length f.layout.shape = sym (length-map f.leaf.root (λ (g : FlatWord). g.width)) ∙ ap length (root_widths plan.program typed agreed.1 t f.layout n f.leaf is_layout f.is_leaf) in
      count ∙ ap shape_length f.is_layout ∙ sym root

  -- an integer
  pub int_field : (width : ℕ) → ty ≡ Int width → (read : Read) → ReadsInt f.leaf words path width read → AreFieldReads plan t n path ty f.layout words (read ∷ [])
  int_field width is read reads =
      let law = lawful plan.program agreed.1 typed in
      let open1 : slice_get (open_positions plan.program.types f.leaf.prov) f.number ≡ Some (record { path = path; ty = Int width }) = f.is_open ∙ ap (λ (u : Ty). Some (record { path = path; ty = u })) is in
      let held : HoldsInt f.leaf path width =
      (λ i lt. unit_there f.leaf (Int width) path i (law.all_held t f.layout n f.leaf is_layout f.is_leaf f.number (record { path = path; ty = Int width }) i open1 lt)) in
      let declared = positions_typed plan.program.types typed.numbered.types f.leaf.prov t (law.provenances.root t f.layout n f.leaf is_layout f.is_leaf) f.number (record { path = path; ty = Int width }) open1 in
      let low = (and_parts (nat_le 1 width) (nat_le width 64) declared).1 in
      let narrow : width ≤ 64 = grind (arith, nat_tests, low) in
      let ra = reads narrow held in
      record {
        count = ap (λ u. words_needed plan u) (sym is);
        fit = λ k all. (ra.fit k all roots, tt);
        origin = λ x h. elim h [ inl e ↦ ra.origin x e | inr z ↦ absurd z ];
        means = λ clean v ws s m good meant rep is_leaf.
            let o = opened_at plan.program.types plan.layouts m clean t v ws rep f.layout n f.leaf f.number (record { path = path; ty = Int width }) f.is_layout is_leaf f.is_leaf open1 in
            let i = Represents-int plan.program.types plan.layouts m clean width o.value (o.subs path) o.represents in
            let number : take_of (slice_index (o.subs path) 0) 0 width ≡ i.0 = ap (λ us. take_of (slice_index us 0) 0 width) i.2 ∙ take_whole i.0 width i.3 in
            let read_is : mean read s m ≡ Some i.0 = ra.means ws s m clean o.subs o.ats good meant o.placed ∙ ap Some number in
            record {
              part = o.value;
              words = o.subs path;
              is_part = o.is_value;
              are_meant = subst (λ us. AreMeant (read ∷ []) s m us) (sym i.2) (read_is, tt);
              represents = subst (λ u. Rep plan m clean u o.value (o.subs path)) (sym is) o.represents;
            };
      }

  -- a field of a data type
  pub data_field : (s : ℕ) → ty ≡ Named s → (reads : List Read) → ReadWords f.leaf words path s (word_count plan.layouts (Named s)) reads → AreFieldReads plan t n path ty f.layout words reads
  data_field u is reads rw1 =
      let law = lawful plan.program agreed.1 typed in
      let o1 : Open = record { path = path; ty = Named u } in
      let open1 : slice_get (open_positions plan.program.types f.leaf.prov) f.number ≡ Some o1 = f.is_open ∙ ap (λ (z : Ty). Some (record { path = path; ty = z })) is in
      let ra : (j : ℕ) (r : Read) → slice_get reads j ≡ Some r → ReadsAs f.leaf words r (λ subs. slice_index (subs path) j) =
      (λ j r e.
      let lt = slice_get_within reads j r e in
      let few : j < word_count (flat_layouts plan.program) (Named u) = subst (λ ls. j < word_count ls (Named u)) agreed.0 (subst (λ k. j < k) rw1.count_is lt) in
      rw1.each j r e (unit_there f.leaf (Named u) path j (law.all_held t f.layout n f.leaf is_layout f.is_leaf f.number o1 j open1 few))) in
      record {
        count = rw1.count_is ∙ ap (λ z. words_needed plan z) (sym is);
        fit = λ k all. each_fit k reads (λ j r e. (ra j r e).fit k all roots);
        origin = λ x h. let g = slot_at reads x h in (ra g.0 (Slot x) g.1).origin x refl;
        means = λ clean v ws s m good meant rep is_leaf.
            let o = opened_at plan.program.types plan.layouts m clean t v ws rep f.layout n f.leaf f.number o1 f.is_layout is_leaf f.is_leaf open1 in
            let long : length (o.subs path) ≡ length reads = Represents-count plan.program.types plan.layouts m clean o.represents ∙ sym rw1.count_is in
            record {
              part = o.value;
              words = o.subs path;
              is_part = o.is_value;
              are_meant = each_meant reads (o.subs path) s m long (λ j r e. (ra j r e).means ws s m clean o.subs o.ats good meant o.placed);
              represents = subst (λ z. Rep plan m clean z o.value (o.subs path)) (sym is) o.represents;
            };
      }

-- The answers' leaf and type are the field's

module _ (agreed : LaidOut) (typed : IsTyped agreed.covered.program) (flat : agreed.layouts ≡ flat_layouts agreed.covered.program) (agrees : Agrees agreed.covered.program) (t n : ℕ) (path : List ℕ) (words : List Read) where
  found_leaf : (plan : Plan) (of : IsPlanOf agreed plan) (ty : Ty) (f : FieldAt plan t n path ty) → leaf_at agreed.layouts t n ≡ Some f.leaf
  found_leaf plan of ty f =
      ap (λ o. leaf_within o n) (ap (λ ls. layout_of ls t) (sym of.layouts) ∙ f.is_layout) ∙ f.is_leaf

  pub no_leaf : leaf_at agreed.layouts t n ≡ None → ReadsField agreed t n path words []
  no_leaf none plan of ty f count = absurd (let z = sym none ∙ found_leaf plan of ty f in cc)

  -- the leaf is one of a layout that agrees
  pub agreed_leaf : (leaf : Leaf) → leaf_at agreed.layouts t n ≡ Some leaf → IsAgreedLeaf leaf
  agreed_leaf leaf e = go (layout_of agreed.layouts t) refl e
    where
      go : (o : Option Layout) → layout_of agreed.layouts t ≡ o → leaf_within o n ≡ Some leaf → IsAgreedLeaf leaf
      go None is h = absurd cc
      go (Some layout) is h = record {
        program = agreed.covered.program;
        typed = typed;
        agrees = agrees;
        ty = t;
        layout = layout;
        number = n;
        is_layout = ap (λ ls. layout_of ls t) (sym flat) ∙ is;
        is_leaf = h;
      }

  module _ (leaf : Leaf) (at : leaf_at agreed.layouts t n ≡ Some leaf) where
    same_leaf : (plan : Plan) (of : IsPlanOf agreed plan) (ty : Ty) (f : FieldAt plan t n path ty) → leaf ≡ f.leaf
    same_leaf plan of ty f = same_Some leaf f.leaf (sym at ∙ found_leaf plan of ty f)

    same_type : (plan : Plan) (of : IsPlanOf agreed plan) (ty : Ty) (f : FieldAt plan t n path ty) → type_at (open_positions agreed.covered.program.types leaf.prov) path ≡ Some ty
    same_type plan of ty f =
        ap (λ ts. type_at (open_positions ts leaf.prov) path) (ap (λ (p : Program). p.types) (sym of.program))
        ∙ ap (λ (l : Leaf). type_at (open_positions plan.program.types l.prov) path) (same_leaf plan of ty f) ∙ position-typed plan.program.types f.leaf.prov f.number (record { path = path; ty = ty }) f.is_open

    pub no_type : type_at (open_positions agreed.covered.program.types leaf.prov) path ≡ None → ReadsField agreed t n path words []
    no_type none plan of ty f count = absurd (let z = sym none ∙ same_type plan of ty f in cc)

    pub reads_int : (width : ℕ) → type_at (open_positions agreed.covered.program.types leaf.prov) path ≡ Some (Int width) → (read : Read) → ReadsInt leaf words path width read → ReadsField agreed t n path words (read ∷ [])
    reads_int width is read reads plan of ty f count =
        let p = of_plan agreed typed flat agrees t plan of in
        let same : ty ≡ Int width = same_Some ty (Int width) (sym (same_type plan of ty f) ∙ is) in
        int_field plan p.0 p.1 t n path ty f words count width same read (subst (λ l. ReadsInt l words path width read) (same_leaf plan of ty f) reads)

    pub reads_data : (s : ℕ) → type_at (open_positions agreed.covered.program.types leaf.prov) path ≡ Some (Named s) → (reads : List Read) → ReadWords leaf words path s (word_count agreed.layouts (Named s)) reads → ReadsField agreed t n path words reads
    reads_data s is reads rw1 plan of ty f count =
        let p = of_plan agreed typed flat agrees t plan of in
        let same : ty ≡ Named s = same_Some ty (Named s) (sym (same_type plan of ty f) ∙ is) in
        let moved = subst (λ l. ReadWords l words path s (word_count agreed.layouts (Named s)) reads) (same_leaf plan of ty f) rw1 in
        data_field plan p.0 p.1 t n path ty f words count s same reads (subst (λ ls. ReadWords f.leaf words path s (word_count ls (Named s)) reads) (sym of.layouts) moved)

-- Slots

new_or : (words : List ℕ) (reads : List Read) (old : Sheet) (xs : List ℕ) (x : ℕ) → ((y : ℕ) → IsSlotOf y reads → IsSlotOf y (map (λ z. Slot z) words)) → AreNewOr reads old xs → IsOneOf x xs → (old.slots ≤ x) ⊎ IsOneOf x words
new_or words reads old [] x from h i = absurd i
new_or words reads old (y ∷ xs) x from h (inl e) =
    elim h.0 [ inl le ↦ inl (omega (arith, le, e)) | inr o ↦ inr (slots_of words x (from x (subst (λ z. IsSlotOf z reads) (sym e) o))) ]
new_or words reads old (y ∷ xs) x from h (inr i) = new_or words reads old xs x from h.1 i

pub fetches_open : (agreed : LaidOut) (t n : ℕ) (path : List ℕ) (words : List ℕ) (reads : List Read) (old new : Sheet) (slots : List ℕ) → ReadsField agreed t n path (map (λ x. Slot x) words) reads
    → MakesAll reads old new slots → AreNewOr reads old slots → length slots ≡ length reads → FetchesOpen agreed t n path words old new slots
fetches_open agreed t n path words reads old new slots field makes from count plan of ty f all long =
    let a = field plan of ty f (length-map words (λ x. Slot x) ∙ long) in
    let made = makes plan old.slots (omega arith) (a.fit old.slots (slots_fit old.slots words all)) in
    record {
      adds = made.adds;
      given = made.given;
      count = count ∙ a.count;
      origin = λ x i. new_or words reads old slots x a.origin from i;
      runs = λ clean v part is_leaf is_part. record {
        adds = made.adds;
        low = omega arith;
        runs = λ final callee next law agrees s w enough pre.
            let q = a.means clean v (slots_at s words) s w.memory pre.0 (slots_meant s w.memory words) pre.1 is_leaf in
            let r = (made.runs q.words).runs final callee next law agrees s w enough (pre.0, q.are_meant) in
            let same : q.part ≡ part = same_Some q.part part (sym q.is_part ∙ is_part) in
            let rep = subst (λ us. Rep plan w.memory clean ty part us) (sym r.6.1) (subst (λ u. Rep plan w.memory clean ty u q.words) same q.represents) in
            (r.0, r.1, r.2, r.3, r.4, r.5, (r.6.0, rep));
      };
    }
