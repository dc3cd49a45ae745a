-- From a part of a value to its field, and the places of patterns.
use Rattle.std.proofs.Common.{◌≡◌, ℕ, zero, suc, ◌+◌, List, [], ◌∷◌, ◌++◌, map, length, Option, Some, None, refl, sym, subst, ap, ◌∙◌, arith}
use Rattle.std.specs.Prelude.{slice_get}
use Rattle.std.specs.List.{flat_map}
use Rattle.std.proofs.lemmas.Option.{same_Some}
use Rattle.rb_core.specs.declared.value.Value.{Value}
use Rattle.rb_core.specs.declared.types.Ty.{Ty}
use Rattle.rb_core.specs.declared.types.Ty.TheVariants.{Named}
use Rattle.rb_core.specs.declared.types.ConRef.{ConRef}
use Rattle.rb_core.specs.declared.types.DataDecl.{DataDecl}
use Rattle.rb_core.specs.declared.pattern.Pat.{Pat, Wild, Var, Num, Con, out-Pat}
use Rattle.rb_core.specs.declared.pattern.Pat.TheVariants.{outs-Wild, outs-Var, outs-Num, outs-Con}
use Rattle.rb_facts.specs.Links.{con_in, leaf_con}
use Rattle.rb_core.specs.Typing.{field_types}
use Rattle.rb_core.specs.Values.{part_from, sub_at, part_at}
use Rattle.rb_core.proofs.PatternLaws.{fold-Con}
use Rattle.rb_layout.specs.declared.agreed.LaidOut.{LaidOut}
use Rattle.rb_layout.specs.declared.layout.Layout.{Layout}
use Rattle.rb_layout.specs.declared.layout.Leaf.{Leaf}
use Rattle.rb_layout.specs.Positions.{con_of_layer, leaf_of, layout_of, open_positions}
use Rattle.rb_layout.specs.Flattening.{type_at}
use Rattle.rb_layout.proofs.OpenPositions.{type-open}
use Rattle.rb_rel.proofs.Lists.{get-left, get-right, get-mapped}
use Rattle.std.proofs.lemmas.List.{length-map}
use Rattle.rb_target.specs.Meaning.{slots_at}
use Rattle.rb_fragment.specs.declared.reads.Read.{Read, Slot}
use Rattle.rb_fragment.proofs.MakingAll.{slots_fit, slots_meant}
use Rattle.rb_fragment.specs.Plan.{Rep, words_needed}
use Rattle.rb_fetch.specs.Fields.{ReadsField}
use Rattle.rb_fetch.specs.Finding.{leaf_within}
use Rattle.rb_facts.specs.declared.knowledge.Known.{Known}
use Rattle.rb_facts.specs.declared.place.Place.{Place}
use Rattle.rb_facts.specs.Looks.{places_in, places_step, places_below, place_below}
use Rattle.rb_facts.specs.Looks as looks
use Rattle.rb_facts.specs.declared.knowledge.Spot.{Spot}
use Rattle.rb_facts.specs.inner.Knowing.{FollowsLeaf}
use Rattle.rb_facts.specs.Knowing.{FollowsSaved, view_of}
use Rattle.rb_facts.specs.inner.Places.{IsFieldOf, IsSpotOf, StepsPlace, HasPlace}
use Rattle.rb_facts.specs.Places.{FindsPlace, IsPlaceIn}

-- Parts

pub part-append : (v : Option Value) (p q : List ℕ) → part_from v (p ++ q) ≡ part_from (part_from v p) q
part-append v [] q = refl
part-append v (i ∷ p) q = part-append (sub_at v i) p q

-- a field of a leaf
pub is-field : (agreed : LaidOut) (t l : ℕ) (path : List ℕ) (layout : Layout) (leaf : Leaf) (ty : Ty) → layout_of agreed.layouts t ≡ Some layout → slice_get layout.leaves l ≡ Some leaf
    → type_at (open_positions agreed.covered.program.types leaf.prov) path ≡ Some ty → IsFieldOf agreed t l path ty
is-field agreed t l path layout leaf ty is_layout is_leaf at = λ plan of.
    let open_at = type-open (open_positions agreed.covered.program.types leaf.prov) path ty at in
    let same : open_at.1 ≡ record { path = path; ty = ty } = ap (λ q. record { path = q; ty = open_at.1.ty }) open_at.3 ∙ ap (λ u. record { path = path; ty = u }) open_at.4 in
    record {
      layout = layout;
      leaf = leaf;
      number = open_at.0;
      is_layout = ap (λ ls. layout_of ls t) of.layouts ∙ is_layout;
      is_leaf = is_leaf;
      is_open = ap (λ (p : Rattle.rb_core.specs.declared.program.Program.Program). slice_get (open_positions p.types leaf.prov) open_at.0) of.program ∙ open_at.2 ∙ ap Some same;
    }

-- further on to an open position of the leaf
pub reaches : (agreed : LaidOut) (place : Place) (known : List Known) (prefix path : List ℕ) (t leaf : ℕ) (ty : Ty) (reads : List Read) (root : Ty) (words : List Read) (spots : List Spot) → place.ty ≡ Named t → FollowsLeaf known t prefix leaf
    → IsFieldOf agreed t leaf path ty → ReadsField agreed t leaf path place.reads reads → FindsPlace agreed root words spots known prefix place → FindsPlace agreed root words spots known (prefix ++ path) (record { ty = ty; reads = reads })
reaches agreed place known prefix path t leaf ty reads root words spots named follow field_of read finds = λ plan of count have.
    let p = finds plan of count have in
    let f = field_of plan of in
    let n : length place.reads ≡ words_needed plan (Named t) = p.count ∙ ap (words_needed plan) named in
    let r = read plan of ty f n in
    record {
      count = r.count;
      fit = λ k h b. r.fit k (p.fit k h b);
      means = λ clean v ws s m good meant rep all.
          let a = p.means clean v ws s m good meant rep all in
          let k = follow (view_of plan clean v spots s m) all in
          let part : k.0 ≡ a.part = same_Some k.0 a.part (sym k.2 ∙ a.is_part) in
          let layout : k.1 ≡ f.layout = same_Some k.1 f.layout (sym k.3 ∙ f.is_layout) in
          let is_leaf : leaf_of f.layout a.part ≡ Some leaf = sym (ap (λ (y : Layout). leaf_of y a.part) layout) ∙ sym (ap (leaf_of k.1) part) ∙ k.4 in
          let b = r.means clean a.part a.words s m good a.are_meant (subst (λ u. Rep plan m clean u a.part a.words) named a.represents) is_leaf in
          record {
            part = b.part;
            words = b.words;
            is_part = part-append (Some v) prefix path ∙ ap (λ o. part_from o path) a.is_part ∙ b.is_part;
            are_meant = b.are_meant;
            represents = b.represents;
          };
    }

-- one field further
pub steps : (agreed : LaidOut) (place : Place) (known : List Known) (prefix : List ℕ) (field t leaf : ℕ) (ty : Ty) (reads : List Read) → place.ty ≡ Named t → FollowsLeaf known t prefix leaf
    → IsFieldOf agreed t leaf (field ∷ []) ty → ReadsField agreed t leaf (field ∷ []) place.reads reads → StepsPlace agreed place known prefix field (record { ty = ty; reads = reads })
steps agreed place known prefix field t leaf ty reads named follow field_of read = λ root words spots finds.
    reaches agreed place known prefix (field ∷ []) t leaf ty reads root words spots named follow field_of read finds

-- the whole value
pub whole : (agreed : LaidOut) (ty : Ty) (words : List Read) (spots : List Spot) (known : List Known) → FindsPlace agreed ty words spots known [] (record { ty = ty; reads = words })
whole agreed ty words spots known = λ plan of count have. record {
  count = count;
  fit = λ k h b. h;
  means = λ clean v ws s m good meant rep all. record { part = v; words = ws; is_part = refl; are_meant = meant; represents = rep };
}

-- what is saved in a spot
pub spot_place : (agreed : LaidOut) (spots : List Spot) (known : List Known) (position : List ℕ) (k : ℕ) (spot : Spot) → slice_get spots k ≡ Some spot → spot.position ≡ position → FollowsSaved known k
    → IsSpotOf agreed spots known position (record { ty = spot.ty; reads = map (λ x. Slot x) spot.slots })
spot_place agreed spots known position k spot at same follows = λ ty words plan of count have. record {
  count = length-map spot.slots (λ x. Slot x) ∙ have k spot at;
  fit = λ n h b. slots_fit n spot.slots (b k spot at);
  means = λ clean v ws s m good meant rep all.
      let h = follows (view_of plan clean v spots s m) all in
      let is : h.0 ≡ spot = same_Some h.0 spot (sym h.1 ∙ at) in
      record {
        part = h.2.0;
        words = slots_at s spot.slots;
        is_part = ap (part_at v) (sym same) ∙ ap (λ (x : Spot). part_at v x.position) (sym is) ∙ h.2.1;
        are_meant = slots_meant s m spot.slots;
        represents = subst (λ (x : Spot). Rep plan m clean x.ty h.2.0 (slots_at s x.slots)) is h.2.2;
      };
}

-- Places

in-below : (types : List DataDecl) (ps : List Pat) (ts : List Ty) (i f : ℕ) (sub : Pat) (ty : Ty) (p : looks.TypedPosition) → slice_get ps f ≡ Some sub → slice_get ts f ≡ Some ty → IsPlaceIn p (places_in types sub ty)
    → IsPlaceIn (place_below (i + f) p) (places_below (map (places_in types) ps) ts i)
in-below types [] ts i f sub ty p a b h = absurd cc
in-below types (q ∷ ps) [] i f sub ty p a b h = absurd cc
in-below types (q ∷ ps) (t ∷ ts) i zero sub ty p a b h =
    let is : q ≡ sub = same_Some q sub a in
    let at : t ≡ ty = same_Some t ty b in
    let z : i + 0 ≡ i = omega arith in
    let h1 : slice_get (places_in types q t) h.0 ≡ Some p = ap (λ (x : Pat). slice_get (places_in types x t) h.0) is ∙ ap (λ (u : Ty). slice_get (places_in types sub u) h.0) at ∙ h.1 in
    (h.0, get-left (map (place_below i) (places_in types q t)) _ h.0 (place_below (i + 0) p) (get-mapped (place_below i) (places_in types q t) h.0 p h1 ∙ ap (λ n. Some (place_below n p)) (sym z)))
in-below types (q ∷ ps) (t ∷ ts) i (suc f) sub ty p a b h =
    let z : i + 1 + f ≡ i + suc f = omega arith in
    let r = in-below types ps ts (i + 1) f sub ty p a b h in
    get-right (map (place_below i) (places_in types q t)) (places_below (map (places_in types) ps) ts (i + 1)) r.0 (place_below (i + suc f) p) (r.1 ∙ ap (λ n. Some (place_below n p)) z)

pub place-under : (types : List DataDecl) (t : Ty) (at : ℕ) (c : ConRef) (ps : List Pat) (field : ℕ) (rest : List ℕ) (sub : Pat) (ty found : Ty) → slice_get ps field ≡ Some sub → slice_get (field_types types c) field ≡ Some ty
    → HasPlace types ty sub rest found → HasPlace types t (Con at c ps) (field ∷ rest) found
place-under types t at c ps field rest sub ty found a b h =
    let r = in-below types ps (field_types types c) 0 field sub ty (record { path = rest; ty = found }) a b h in
    let z : 0 + field ≡ field = omega arith in (
      suc r.0,
      ap (λ (f : Ty → List looks.TypedPosition). slice_get (f t) (suc r.0)) (fold-Con (Ty → List looks.TypedPosition) (places_step types) at c ps)
          ∙ r.1 ∙ ap (λ n. Some (place_below n (record { path = rest; ty = found }))) z,
    )

pub in-flat : {A B : Type 0} (f : A → List B) (xs : List A) (i : ℕ) (x : A) (y : B) → slice_get xs i ≡ Some x → (k : ℕ) → slice_get (f x) k ≡ Some y → (j : ℕ) × (slice_get (flat_map f xs) j ≡ Some y)
in-flat f [] i x y e k h = absurd cc
in-flat f (z ∷ xs) zero x y e k h = let is = same_Some z x e in (k, get-left (f z) (flat_map f xs) k y (ap (λ w. slice_get (f w) k) is ∙ h))
in-flat f (z ∷ xs) (suc i) x y e k h = let r = in-flat f xs i x y e k h in get-right (f z) (flat_map f xs) r.0 y r.1

-- The constructor of a leaf

pub con-known : (agreed : LaidOut) (t l : ℕ) (layout : Layout) (leaf : Leaf) → layout_of agreed.layouts t ≡ Some layout → slice_get layout.leaves l ≡ Some leaf → (at : ℕ) (c : ConRef) (ps : List Pat) → leaf.prov ≡ Con at c ps
    → leaf_con agreed t l ≡ Some c.con
con-known agreed t l layout leaf a b at c ps e =
    ap (λ o. con_in (leaf_within o l)) a ∙ ap con_in b ∙ ap (λ p. con_of_layer (out-Pat p)) e ∙ ap con_of_layer (outs-Con at c ps)

pub con-none-Wild : (agreed : LaidOut) (t l : ℕ) (layout : Layout) (leaf : Leaf) → layout_of agreed.layouts t ≡ Some layout → slice_get layout.leaves l ≡ Some leaf → (at : ℕ) → leaf.prov ≡ Wild at → leaf_con agreed t l ≡ None
con-none-Wild agreed t l layout leaf a b at e =
    ap (λ o. con_in (leaf_within o l)) a ∙ ap con_in b ∙ ap (λ p. con_of_layer (out-Pat p)) e ∙ ap con_of_layer (outs-Wild at)

pub con-none-Var : (agreed : LaidOut) (t l : ℕ) (layout : Layout) (leaf : Leaf) → layout_of agreed.layouts t ≡ Some layout → slice_get layout.leaves l ≡ Some leaf → (at x : ℕ) → leaf.prov ≡ Var at x → leaf_con agreed t l ≡ None
con-none-Var agreed t l layout leaf a b at x e =
    ap (λ o. con_in (leaf_within o l)) a ∙ ap con_in b ∙ ap (λ p. con_of_layer (out-Pat p)) e ∙ ap con_of_layer (outs-Var at x)

pub con-none-Num : (agreed : LaidOut) (t l : ℕ) (layout : Layout) (leaf : Leaf) → layout_of agreed.layouts t ≡ Some layout → slice_get layout.leaves l ≡ Some leaf → (at n : ℕ) → leaf.prov ≡ Num at n → leaf_con agreed t l ≡ None
con-none-Num agreed t l layout leaf a b at n e =
    ap (λ o. con_in (leaf_within o l)) a ∙ ap con_in b ∙ ap (λ p. con_of_layer (out-Pat p)) e ∙ ap con_of_layer (outs-Num at n)
