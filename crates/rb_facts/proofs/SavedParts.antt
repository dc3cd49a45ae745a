-- Slots for parts of a value: given one by one.
use Rattle.std.proofs.Common.{◌≡◌, ℕ, zero, suc, ◌+◌, ◌<◌, ◌≤◌, ◌⊎◌, inl, inr, List, [], ◌∷◌, ◌++◌, length, refl, sym, subst, ap, ◌∙◌, arith, Bool, true, false, append_assoc, append-nil, ◌==◌, take, get_or, Option, Some, None}
use Rattle.std.specs.Prelude.{slice_get, slice_index, slice_set, IfSome, unwrap_or}
use Rattle.std.proofs.lemmas.Option.{same_Some}
use Rattle.rb_core.specs.declared.types.Ty.{Ty}
use Rattle.rb_bytes.specs.Memory.{Memory}
use Rattle.rb_target.specs.declared.instr.Instr.TheVariants.{Const, Copy}
use Rattle.rb_target.specs.Sheet.{Sheet, with_more, with_slot}
use Rattle.rb_target.proofs.Growing.{Grows-refl, Grows-trans, Grows-append}
use Rattle.rb_layout.specs.declared.agreed.LaidOut.{LaidOut}
use Rattle.rb_fragment.specs.Plan.{Plan, words_needed, Rep}
use Rattle.rb_fragment.specs.Pieces.{AtEnd, Straight, CodePiece}
use Rattle.rb_fragment.specs.Slots.{AllBelow, AllFrom, SlotsAreApart, IsDistinct, IsOneOf, slots_from, copies}
use Rattle.rb_fragment.proofs.Holds.{AllBelow-more}
use Rattle.rb_fragment.proofs.Moves.{copied, one-below, slots_from-above, slots_from-below, slots_from-distinct, slots_from-from, slots_from-length, copied-other, slots_at-copied}
use Rattle.rb_fragment.proofs.Pieces.{piece_none, piece_weaken, straight_seq, piece_frame, straight_write}
use Rattle.rb_fragment.proofs.Steps.{straight_const}
use Rattle.rb_facts.specs.declared.knowledge.Spot.{Spot}
use Rattle.rb_facts.specs.declared.saving.Source.{Source}
use Rattle.rb_core.specs.declared.value.Value.{Value}
use Rattle.rb_core.specs.declared.types.Ty.TheVariants.{Named}
use Rattle.rb_core.specs.Values.{part_at, part_from, fields_of}
use Rattle.rb_target.specs.declared.instr.Instr.{Instr}
use Rattle.rb_target.specs.Growth.{Nowhere}
use Rattle.rb_target.specs.Meaning.{slots_at}
use Rattle.rb_layout.specs.Positions.{layout_of, leaf_of, pair_of, sub_in, sub_pattern, types_or_none}
use Rattle.rb_fragment.proofs.Adding.{Adds-refl, Adds-trans}
use Rattle.rb_fetch.specs.Fields.{FetchesField}
use Rattle.rb_fetch.specs.Finding.{IsPlanOf, leaf_within}
use Rattle.rb_fetch.specs.Positions.{PositionAt, found_at, mend_under}
use Rattle.rb_layout.specs.declared.layout.Layout.{Layout}
use Rattle.rb_core.specs.declared.pattern.Pat.{Pat, Con, out-Pat}
use Rattle.rb_core.specs.declared.pattern.Pat.TheOpen as P
use Rattle.rb_core.specs.declared.pattern.Pat.TheVariants.{outs-Con}
use Rattle.rb_core.specs.declared.types.ConRef.{ConRef}
use Rattle.rb_core.specs.Typing.{field_types}
use Rattle.rb_decide.specs.Decisions.{subpatterns}
use Rattle.rb_core.specs.declared.types.DataDecl.{DataDecl}
use Rattle.rb_fragment.proofs.MakingAll.{take_more}
use Rattle.rb_facts.proofs.Mending.{has_part}
use Rattle.rb_facts.specs.declared.knowledge.Known.{Known}
use Rattle.rb_facts.specs.declared.knowledge.Known.TheVariants.{Leaf, Saved}
use Rattle.rb_facts.specs.Saving.{AreSpots, Anything, FetchesPart, GivesSpots, IsSpotAt, IsThere, IsThereWith, Learns, Zeroes, mend_at, mend_pattern, pattern_at, provenance}
use Rattle.rb_facts.specs.inner.Saving.{IsPositionOf, HasBelow, KeepsOthers, SavesAt, SavesPart}
use Rattle.rb_facts.specs.Knowing.{AreKnown, IsKnown, IsSaved, view_of}
use Rattle.rb_facts.proofs.Composing.{pieces}
use Rattle.rb_facts.proofs.Numbers.{other-nat, same-nat}
use Rattle.rb_facts.proofs.Following.{snoc-at}
use Rattle.rb_facts.proofs.Placing.{part-append}

-- spots of code with more slots
pub spots-more : (plan : Plan) (n m m1 : ℕ) (spots : List Spot) → m ≤ m1 → AreSpots plan n m spots → AreSpots plan n m1 spots
spots-more plan n m m1 spots le a = record {
  low = (let l = a.low in omega (arith, l, le));
  from = a.from;
  below = λ k spot at. AllBelow-more m m1 spot.slots le (a.below k spot at);
  count = a.count;
  distinct = a.distinct;
  apart = a.apart;
}

pub zeroes-none : (b : Sheet) → Zeroes b b 0
zeroes-none b = record {
  slots = omega arith;
  straight = λ plan n le. piece_none plan n b Anything Anything le (λ s m x. x);
  grows = Grows-refl b.code;
}

pub zeroes-more : (a b : Sheet) (i : ℕ) → Zeroes a b i → Zeroes a (with_more (with_slot b) (Const b.slots 0)) (i + 1)
zeroes-more a b i z = record {
  slots = (let e = z.slots in omega (arith, e));
  straight = λ plan n le.
      let e = z.slots in
      let low : n ≤ b.slots = omega (arith, le, e) in
      straight_seq plan n a b (with_more (with_slot b) (Const b.slots 0)) Anything Anything Anything (z.straight plan n le) (straight_const plan n b low (λ k m. Unit {0}) 0 (omega arith));
  grows = Grows-trans _ _ _ z.grows (Grows-append b.code (Const b.slots 0 ∷ []));
}

pub given-none : (agreed : LaidOut) (b : Sheet) → GivesSpots agreed b b []
given-none agreed b = λ plan of. record {
  are = record {
    low = omega arith;
    from = λ k spot at. absurd cc;
    below = λ k spot at. absurd cc;
    count = λ k spot at. absurd cc;
    distinct = λ k spot at. absurd cc;
    apart = λ j k a c at at1 ne. absurd cc;
  };
  straight = piece_none plan b.slots b Anything Anything (omega arith) (λ s m x. x);
}

-- an item of a list with one more, and where it stands
snoc-place : {A : Type 0} (xs : List A) (x y : A) (i : ℕ) → slice_get (xs ++ x ∷ []) i ≡ Some y → (slice_get xs i ≡ Some y) ⊎ ((x ≡ y) × (i ≡ length xs))
snoc-place [] x y zero e = inr (same_Some x y e, refl)
snoc-place [] x y (suc i) e = absurd cc
snoc-place (z ∷ xs) x y zero e = inl e
snoc-place (z ∷ xs) x y (suc i) e = elim (snoc-place xs x y i e) [ inl h ↦ inl h | inr h ↦ inr (h.0, ap suc h.1) ]

-- one spot more
pub given-more : (agreed : LaidOut) (a b c : Sheet) (spots : List Spot) (spot : Spot) (count : ℕ) → GivesSpots agreed a b spots → Zeroes b c count → spot.slots ≡ slots_from b.slots count
    → ((plan : Plan) → Rattle.rb_fetch.specs.Finding.IsPlanOf agreed plan → count ≡ words_needed plan spot.ty) → GivesSpots agreed a c (spots ++ spot ∷ [])
given-more agreed a b c spots spot count gives z is words = λ plan of.
    let g = gives plan of in
    let w = words plan of in
    let sum = z.slots in
    let low = g.are.low in
    let below : AllBelow c.slots spot.slots = subst (λ xs. AllBelow c.slots xs) (sym is) (slots_from-below b.slots count c.slots (omega (arith, sum))) in
    let old : (k : ℕ) (x : Spot) → slice_get spots k ≡ Some x → (y : ℕ) → IsOneOf y x.slots → IsOneOf y spot.slots → ⊥ = λ k x at y i j.
    let lt = one-below b.slots y x.slots (g.are.below k x at) i in
    let le = slots_from-above b.slots count y (subst (λ xs. IsOneOf y xs) is j) in omega (arith, lt, le) in
    record {
      are = record {
        low = omega (arith, low, sum);
        from = λ k x at. elim (snoc-at spots spot x k at) [
          | inl h ↦ g.are.from k x h
          | inr e ↦ subst (λ (q : Spot). AllFrom a.slots q.slots) e (subst (λ xs. AllFrom a.slots xs) (sym is) (slots_from-from a.slots b.slots count low))
        ];
        below = λ k x at. elim (snoc-at spots spot x k at) [
          | inl h ↦ AllBelow-more b.slots c.slots x.slots (omega (arith, sum)) (g.are.below k x h)
          | inr e ↦ subst (λ (q : Spot). AllBelow c.slots q.slots) e below
        ];
        count = λ k x at. elim (snoc-at spots spot x k at) [
          | inl h ↦ g.are.count k x h
          | inr e ↦ subst (λ (q : Spot). length q.slots ≡ words_needed plan q.ty) e (ap length is ∙ slots_from-length b.slots count ∙ w)
        ];
        distinct = λ k x at. elim (snoc-at spots spot x k at) [
          | inl h ↦ g.are.distinct k x h
          | inr e ↦ subst (λ (q : Spot). IsDistinct q.slots) e (subst (λ xs. IsDistinct xs) (sym is) (slots_from-distinct b.slots count))
        ];
        apart = λ j k x y at at1 ne. elim (snoc-place spots spot x j at) [
          | inl h ↦ elim (snoc-place spots spot y k at1) [
            | inl h1 ↦ g.are.apart j k x y h h1 ne
            | inr e ↦ subst (λ (q : Spot). SlotsAreApart x.slots q.slots) e.0 (λ u i i1. old j x h u i i1)
          ]
          | inr e ↦ elim (snoc-place spots spot y k at1) [
            | inl h1 ↦ subst (λ (q : Spot). SlotsAreApart q.slots y.slots) e.0 (λ u i i1. old k y h1 u i1 i)
            | inr e1 ↦ absurd (ne (e.1 ∙ sym e1.1))
          ]
        ];
      };
      straight = straight_seq plan a.slots a b c Anything Anything Anything g.straight (z.straight plan a.slots low);
    }

-- Spots found ------------------------------------------------------------------------------------

pub spot_is : (spots : List Spot) (position : List ℕ) (ty : Ty) (k : ℕ) (spot : Spot) → slice_get spots k ≡ Some spot → spot.position ≡ position → spot.ty ≡ ty → IsSpotAt spots position ty k
spot_is spots position ty k spot at same of = (spot, at, same, of)

-- Copies ----------------------------------------------------------------------------------------

abbrev with_copies : Sheet → List ℕ → List ℕ → Sheet
with_copies b ds fs = record b { code = b.code ++ copies ds fs }

no_copies : (b : Sheet) → b ≡ record b { code = b.code ++ [] }
no_copies b = ap (λ (c : List Instr). let s : Sheet = record b { code = c } in s) (sym (append-nil b.code))

-- copied words to slots that are not kept, one after the other
pub copies_straight : (plan : Plan) (n : ℕ) (P : List ℕ → Memory → Type 0) (ds fs : List ℕ) (b : Sheet) → n ≤ b.slots → AllFrom n ds → AllBelow b.slots ds → AllBelow b.slots fs
    → Straight plan n b (with_copies b ds fs) (λ s m. P (copied s ds fs) m) P
copies_straight plan n P [] fs b le from below reads = subst (λ c. Straight plan n b c P P) (no_copies b) (piece_none plan n b P P le (λ s m x. x))
copies_straight plan n P (d ∷ ds) [] b le from below reads = subst (λ c. Straight plan n b c P P) (no_copies b) (piece_none plan n b P P le (λ s m x. x))
copies_straight plan n P (d ∷ ds) (f ∷ fs) b le from below reads =
    let one = straight_write plan n b (Copy d f) d (λ s m. P (copied (slice_set s d (slice_index s f)) ds fs) m) (λ s m. P (copied s ds fs) m) le from.0
    (record { bounded = tt; slots_fit = (below.0, reads.0); targets = tt; calls = tt })
    (λ next callee pc s w inside pre. (slice_index s f, refl, pre)) in
    let more = copies_straight plan n P ds fs (with_more b (Copy d f)) le from.1 below.1 reads.1 in
    let same : with_copies (with_more b (Copy d f)) ds fs ≡ with_copies b (d ∷ ds) (f ∷ fs) = ap (λ (c : List Instr). let s : Sheet = record b { code = c } in s) (append_assoc b.code (Copy d f ∷ []) (copies ds fs)) in
    subst (λ c. Straight plan n b c (λ s m. P (copied s (d ∷ ds) (f ∷ fs)) m) P) same
    (straight_seq plan n b (with_more b (Copy d f)) (with_copies (with_more b (Copy d f)) ds fs) (λ s m. P (copied (slice_set s d (slice_index s f)) ds fs) m) (λ s m. P (copied s ds fs) m) P one more)

-- slots apart from those that are written
pub slots_at-apart : (n : ℕ) (ds xs s s' : List ℕ) → KeepsOthers n ds s s' → AllBelow n xs → SlotsAreApart ds xs → slots_at s' xs ≡ slots_at s xs
slots_at-apart n ds [] s s' keeps below apart = refl
slots_at-apart n ds (x ∷ xs) s s' keeps below apart =
    let here : slice_index s' x ≡ slice_index s x = keeps x below.0 (λ i. apart x i (inl refl)) in
    ap (λ w. w ∷ slots_at s' xs) here ∙ ap (λ ws. slice_index s x ∷ ws) (slots_at-apart n ds xs s s' keeps below.1 (λ y i j. apart y i (inr j)))

-- Fetching and saving -----------------------------------------------------------------------------

-- what is found at a path of a pattern stands there
found-pattern : (types : List DataDecl) (p : Pat) (t : Ty) (path : List ℕ) (sub : Pat) (at : Ty) → found_at types (Some (p, t)) path ≡ Some (sub, at) → pattern_at (Some p) path ≡ Some sub
found-pattern types p t [] sub at e = ap (λ (x : Option (Pat × Ty)). first x) e
  where
    first : Option (Pat × Ty) → Option Pat
    first None = None
    first (Some x) = Some x.0
found-pattern types p t (i ∷ path) sub at e = step (λ q ty e. found-pattern types q ty path sub at e) (out-Pat p) e
  where
    Found : Pat → Ty → Type 0
    Found q ty = found_at types (Some (q, ty)) path ≡ Some (sub, at) → pattern_at (Some q) path ≡ Some sub

    pairs : ((q : Pat) (ty : Ty) → Found q ty) → (o : Option Pat) (u : Option Ty) → found_at types (pair_of o u) path ≡ Some (sub, at) → pattern_at o path ≡ Some sub
    pairs more None u e = absurd cc
    pairs more (Some q) None e = absurd cc
    pairs more (Some q) (Some ty) e = more q ty e

    step : ((q : Pat) (ty : Ty) → Found q ty) → (l : P.Pat-F Pat) → found_at types (sub_in types l i) path ≡ Some (sub, at) → pattern_at (slice_get (subpatterns l) i) path ≡ Some sub
    step more (P.Wild tok) e = absurd cc
    step more (P.Var tok x) e = absurd cc
    step more (P.Num tok n) e = absurd cc
    step more (P.Con tok c ps) e = pairs more (slice_get ps i) (slice_get (types_or_none (fields_of types c)) i) e

pub fetches_part : (agreed : LaidOut) (t leaf : ℕ) (path : List ℕ) (at : Ty) (words : List ℕ) (old new : Sheet) (slots : List ℕ) → IsPositionOf agreed t leaf path at → FetchesField agreed t leaf path words old new slots → FetchesPart agreed t leaf path at words old new slots
fetches_part agreed t leaf path at words old new slots (layout, found, is, is_leaf, there) fetches = λ plan of low count.
    let sub = there.0 in
    let is_at = there.1 in
    let layout1 : layout_of plan.layouts t ≡ Some layout = ap (λ ls. layout_of ls t) of.layouts ∙ is in
    let at1 : found_at plan.program.types (Some (found.prov, Named t)) path ≡ Some (sub, at) = ap (λ (p : Rattle.rb_core.specs.declared.program.Program.Program). found_at p.types (Some (found.prov, Named t)) path) of.program ∙ is_at in
    let position : PositionAt plan t leaf path at = record {
      layout = layout;
      leaf = found;
      pat = sub;
      is_layout = layout1;
      is_leaf = is_leaf;
      is_position = at1;
    } in
    let f = fetches plan of at position low count in
    let is_sub = found-pattern plan.program.types found.prov (Named t) path sub at at1 in
    let most : mend_at plan.layouts t leaf path ≡ mend_under plan.layouts sub =
    ap (λ o. mend_pattern plan.layouts (pattern_at (provenance o) path)) (ap (λ o. leaf_within o leaf) layout1 ∙ is_leaf) ∙ ap (λ o. mend_pattern plan.layouts o) is_sub in
    record {
      has = has_part plan t leaf path layout found sub layout1 is_leaf is_sub;
      adds = f.adds;
      given = f.given;
      count = f.count;
      origin = f.origin;
      runs = λ clean v part other is_other is_leaf1 is_part.
          let same : other ≡ layout = same_Some other layout (sym is_other ∙ layout1) in
          let r = f.runs clean v part (ap (λ (y : Layout). leaf_of y v) (sym same) ∙ is_leaf1) is_part in
          subst (λ k. CodePiece plan old.slots old new Nowhere k (λ s m. IsThere plan clean t v words s m) (AtEnd new (λ s m. Rep plan m clean at part (slots_at s slots)))) (sym most) r;
    }

below-origin : (n : ℕ) (xs words : List ℕ) → ((x : ℕ) → IsOneOf x xs → (n ≤ x) ⊎ IsOneOf x words) → (ds : List ℕ) → AllBelow n ds → SlotsAreApart ds words → SlotsAreApart ds xs
below-origin n xs words origin ds below apart = λ x i j. elim (origin x j) [
  | inl le ↦ (let lt = one-below n x ds below i in omega (arith, lt, le))
  | inr w ↦ apart x i w
]

pub saves_part : (agreed : LaidOut) (t leaf : ℕ) (path words : List ℕ) (spot : Spot) (old mid : Sheet) (slots : List ℕ) → SlotsAreApart spot.slots words → FetchesPart agreed t leaf path spot.ty words old mid slots
    → SavesPart agreed t leaf path words spot old (with_copies mid spot.slots slots)
saves_part agreed t leaf path words spot old mid slots apart fetches = λ plan n of le from below distinct count low long.
    let f = fetches plan of low long in
    let ds = spot.slots in
    let more = f.adds.more in
    let le1 : n ≤ mid.slots = omega (arith, le, more) in
    let below1 = AllBelow-more old.slots mid.slots ds more below in
    let apart1 = below-origin old.slots slots words f.origin ds below apart in
    let same : length ds ≡ length slots = count ∙ sym f.count in
    let new = with_copies mid ds slots in
    let adds = (copies_straight plan n (λ s m. Unit {0}) ds slots mid le1 from below1 f.given).adds in
    record {
      has = f.has;
      adds = Adds-trans plan old mid new f.adds adds;
      apart = apart;
      runs = λ clean v part layout s0 is is_leaf is_part.
          let Pre : List ℕ → Memory → Type 0 = λ s m. (s ≡ s0) × IsThere plan clean t v words s m in
          let Kept : List ℕ → Memory → Type 0 = λ s m. (length s ≡ length s0) × ((x : ℕ) → x < old.slots → slice_index s x ≡ slice_index s0 x) in
          let Part : List ℕ → Memory → Type 0 = λ s m. Rep plan m clean spot.ty part (slots_at s slots) in
          let Post : List ℕ → Memory → Type 0 = λ s m. KeepsOthers old.slots ds s0 s × Rep plan m clean spot.ty part (slots_at s ds) in
          let most = mend_at plan.layouts t leaf path in
          let run = f.runs clean v part layout is is_leaf is_part in
          let framed = piece_frame plan old.slots old mid Nowhere most Kept (λ s m. IsThere plan clean t v words s m) (AtEnd mid Part) (λ s s' m k x. (k.long ∙ x.0, λ y lt. k.same y lt ∙ x.1 y lt)) run in
          let Long : List ℕ → Memory → Type 0 = λ s m. (mid.slots ≤ length s) × Pre s m in
          let first : CodePiece plan n old mid Nowhere most Pre (AtEnd mid (λ s m. Kept s m × Part s m)) =
          piece_weaken plan old.slots n old mid Nowhere most most (λ s m. Kept s m × IsThere plan clean t v words s m) Pre (λ pc s m. Kept s m × AtEnd mid Part pc s m) (AtEnd mid (λ s m. Kept s m × Part s m)) le (omega arith)
          (λ s m x. ((ap length x.0, λ y lt. ap (λ l. slice_index l y) x.0), x.1)) (λ pc s m x. (x.1.0, (x.0, x.1.1))) framed in
          let second = copies_straight plan n Post ds slots mid le1 from below1 f.given in
          record {
            adds = Adds-trans plan old mid new f.adds adds;
            low = le;
            runs = λ final callee next law agrees s w there pre.
                let room : mid.slots ≤ length s = there in
                let last = piece_weaken plan n n mid new Nowhere 0 0 (λ s m. Post (copied s ds slots) m) (λ s m. (length s ≡ length s0) × ((x : ℕ) → x < old.slots → slice_index s x ≡ slice_index s0 x) × Part s m) (AtEnd new Post) (AtEnd new Post) (omega arith) (omega arith)
                (λ s1 m x. (
                  (λ y lt out. copied-other s1 ds slots y out ∙ x.1 y lt),
                  subst (λ ws. Rep plan m clean spot.ty part ws) (sym (slots_at-copied s1 ds slots same (AllBelow-more mid.slots (length s1) ds (let e = x.0 in let e1 = ap length pre.0 in omega (arith, e, e1, room)) below1) distinct apart1)) x.2,
                )) (λ pc s m x. x) second in
                let first1 = piece_weaken plan n n old mid Nowhere most most Pre Pre (AtEnd mid (λ s m. Kept s m × Part s m)) (AtEnd mid (λ s m. (length s ≡ length s0) × ((x : ℕ) → x < old.slots → slice_index s x ≡ slice_index s0 x) × Part s m)) (omega arith) (omega arith)
                (λ s m x. x) (λ pc s m x. (x.0, (x.1.0.0, x.1.0.1, x.1.1))) first in
                let all = pieces plan n old mid new most 0 Pre (λ s m. (length s ≡ length s0) × ((x : ℕ) → x < old.slots → slice_index s x ≡ slice_index s0 x) × Part s m) Post first1 last in
                let r = all.runs final callee next law agrees s w there pre in
                (r.0, r.1, r.2, r.3, r.4, record { memory = r.5.memory; left = r.5.left; switches = (let q = r.5.switches in omega (arith, q)) }, r.6);
          };
    }

-- Facts -----------------------------------------------------------------------------------------

-- nothing is saved
pub learns-none : (agreed : LaidOut) (most : Plan → ℕ) (t leaf : ℕ) (words : List ℕ) (spots : List Spot) (position : List ℕ) (known : List Known) (b : Sheet) → Learns agreed most t leaf words spots position known known b b
learns-none agreed most t leaf words spots position known b = λ plan n of are low count. record {
  adds = Adds-refl plan b;
  runs = λ clean v part layout is is_leaf is_part.
      let Pre : List ℕ → Memory → Type 0 = λ s m. IsThereWith plan clean t v part words spots known s m in
      piece_weaken plan n n b b Nowhere 0 (most plan) Pre Pre (AtEnd b Pre) (AtEnd b Pre) (omega arith) (omega arith) (λ s m x. x) (λ pc s m x. x) (piece_none plan n b Pre Pre are.low (λ s m x. x));
}

-- one spot more is known
pub saves_field : (agreed : LaidOut) (t leaf : ℕ) (path : List ℕ) (k : ℕ) (words : List ℕ) (spots : List Spot) (spot : Spot) (position : List ℕ) (known : List Known) (old new : Sheet) → slice_get spots k ≡ Some spot → spot.position ≡ position ++ path
    → SavesPart agreed t leaf path words spot old new → Learns agreed (λ plan. mend_at plan.layouts t leaf path) t leaf words spots position known (known ++ Saved k ∷ []) old new
saves_field agreed t leaf path k words spots spot position known old new at there saves = λ plan n of are low count.
    let p = saves plan n of are.low (are.from k spot at) (are.below k spot at) (are.distinct k spot at) (are.count k spot at) low count in
    record {
      adds = p.adds;
      runs = λ clean v part layout is is_leaf is_part.
          let has = p.has part layout is is_leaf in
          let most = mend_at plan.layouts t leaf path in
          let Post : List ℕ → Memory → Type 0 = λ s m. IsThereWith plan clean t v part words spots (known ++ Saved k ∷ []) s m in
          record {
            adds = p.adds;
            low = are.low;
            runs = λ final callee next law agrees s w long pre.
                let r = (p.runs clean part has.0 layout s is is_leaf has.1).runs final callee next law agrees s w long (refl, pre.0) in
                let m = w.memory in
                let view = view_of plan clean v spots r.1 m in
                let others = r.6.1.0 in
                let words1 : slots_at r.1 words ≡ slots_at s words = slots_at-apart old.slots spot.slots words s r.1 others low p.apart in
                let is_there : IsThere plan clean t part words r.1 m = (pre.0.0, subst (λ ws. Rep plan m clean (Named t) part ws) (sym words1) pre.0.1) in
                let new_part : part_at v spot.position ≡ Some has.0 = ap (part_at v) there ∙ part-append (Some v) position path ∙ ap (λ o. part_from o path) is_part ∙ has.1 in
                let here : IsSaved view k = (spot, at, (has.0, new_part, r.6.1.1)) in
                let facts : AreKnown view (known ++ Saved k ∷ []) = λ i x e. elim (snoc-at known (Saved k) x i e) [
                  | inl j ↦ kept plan n clean v s r.1 m are at here others x (pre.1 i x j)
                  | inr same ↦ subst (IsKnown view) same here
                ] in
                (r.0, r.1, r.2, r.3, r.4, r.5, (r.6.0, (is_there, facts)));
          };
    }
  where
    kept : (plan : Plan) (n : ℕ) (clean : Bool) (v : Value) (s s' : List ℕ) (m : Memory) → AreSpots plan n old.slots spots → slice_get spots k ≡ Some spot → IsSaved (view_of plan clean v spots s' m) k → KeepsOthers old.slots spot.slots s s' → (x : Known)
        → IsKnown (view_of plan clean v spots s m) x → IsKnown (view_of plan clean v spots s' m) x
    kept plan n clean v s s' m are at here others (Leaf q u l) h = h
    kept plan n clean v s s' m are at here others (Saved j) h = go (j == k) refl
      where
        go : (u : Bool) → (j == k) ≡ u → IsSaved (view_of plan clean v spots s' m) j
        go true e = subst (IsSaved (view_of plan clean v spots s' m)) (sym (same-nat j k e)) here
        go false e =
            let other = are.apart k j spot h.0 at h.1 (λ same. other-nat j k e (sym same)) in
            (h.0, h.1, (h.2.0, h.2.1, subst (λ ws. Rep plan m clean h.0.ty h.2.0 ws) (sym (slots_at-apart old.slots spot.slots h.0.slots s s' others (are.below j h.0 h.1) other)) h.2.2))

-- some facts, and then more
pub learns-more : (agreed : LaidOut) (first second : Plan → ℕ) (t leaf : ℕ) (words : List ℕ) (spots : List Spot) (position : List ℕ) (known more most : List Known) (a b c : Sheet) → Learns agreed first t leaf words spots position known more a b
    → Learns agreed second t leaf words spots position more most b c → Learns agreed (λ plan. first plan + second plan) t leaf words spots position known most a c
learns-more agreed first second t leaf words spots position known more most a b c one two = λ plan n of are low count.
    let f = one plan n of are low count in
    let g = two plan n of (spots-more plan n a.slots b.slots spots f.adds.more are) (AllBelow-more a.slots b.slots words f.adds.more low) count in
    record {
      adds = Adds-trans plan a b c f.adds g.adds;
      runs = λ clean v part layout is is_leaf is_part.
          pieces plan n a b c (first plan) (second plan) (λ s m. IsThereWith plan clean t v part words spots known s m) (λ s m. IsThereWith plan clean t v part words spots more s m) (λ s m. IsThereWith plan clean t v part words spots most s m)
          (f.runs clean v part layout is is_leaf is_part) (g.runs clean v part layout is is_leaf is_part);
    }

-- at least so many switches are allowed
pub learns-less : (agreed : LaidOut) (less most : Plan → ℕ) (t leaf : ℕ) (words : List ℕ) (spots : List Spot) (position : List ℕ) (known more : List Known) (old new : Sheet)
    → ((plan : Plan) → IsPlanOf agreed plan → less plan ≤ most plan) → Learns agreed less t leaf words spots position known more old new → Learns agreed most t leaf words spots position known more old new
learns-less agreed less most t leaf words spots position known more old new within saves = λ plan n of are low count.
    let f = saves plan n of are low count in
    record {
      adds = f.adds;
      runs = λ clean v part layout is is_leaf is_part.
          let Pre : List ℕ → Memory → Type 0 = λ s m. IsThereWith plan clean t v part words spots known s m in
          let Post : List ℕ → Memory → Type 0 = λ s m. IsThereWith plan clean t v part words spots more s m in
          piece_weaken plan n n old new Nowhere (less plan) (most plan) Pre Pre (AtEnd new Post) (AtEnd new Post) (omega arith) (within plan of) (λ s m x. x) (λ pc s m x. x) (f.runs clean v part layout is is_leaf is_part);
    }

-- Answers of tests ---------------------------------------------------------------------------------

one-append : (xs ys : List ℕ) (y : ℕ) → IsOneOf y (xs ++ ys) → IsOneOf y xs ⊎ IsOneOf y ys
one-append [] ys y i = inr i
one-append (x ∷ xs) ys y (inl e) = inl (inl e)
one-append (x ∷ xs) ys y (inr i) = elim (one-append xs ys y i) [ inl j ↦ inl (inr j) | inr j ↦ inr j ]

-- one item further, and it is not the one
pub none_of : (xs : List ℕ) (i x y : ℕ) → slice_get xs i ≡ Some x → (IsOneOf y (take i xs) → ⊥) → (x ≡ y → ⊥) → IsOneOf y (take (i + 1) xs) → ⊥
none_of xs i x y at none ne h = elim (one-append (take i xs) (x ∷ []) y (subst (IsOneOf y) (take_more xs i x at) h)) [
  | inl j ↦ none j
  | inr j ↦ elim j [ inl e ↦ ne (sym e) | inr z ↦ z ]
]

pub apart_more : (xs others : List ℕ) (i x : ℕ) → slice_get xs i ≡ Some x → SlotsAreApart (take i xs) others → (IsOneOf x others → ⊥) → SlotsAreApart (take (i + 1) xs) others
apart_more xs others i x at apart none = λ y h j. elim (one-append (take i xs) (x ∷ []) y (subst (IsOneOf y) (take_more xs i x at) h)) [
  | inl k ↦ apart y k j
  | inr k ↦ elim k [ inl e ↦ none (subst (λ z. IsOneOf z others) e j) | inr z ↦ z ]
]

pub here_is : (types : List DataDecl) (t : Ty) (pat : Pat) → HasBelow types t pat [] t
here_is types t pat = (pat, refl)

pub below_is : (types : List DataDecl) (t u at : Ty) (pat sub : Pat) (field : ℕ) (path : List ℕ) (token : ℕ) (c : ConRef) (subs : List Pat) → pat ≡ Con token c subs → slice_get subs field ≡ Some sub → slice_get (field_types types c) field ≡ Some u
    → HasBelow types u sub path at → HasBelow types t pat (field ∷ path) at
below_is types t u at pat sub field path token c subs is is_sub is_type (found, at_path) =
    let out : out-Pat pat ≡ P.Con token c subs = ap out-Pat is ∙ outs-Con token c subs in
    let pair : sub_pattern types pat field ≡ Some (sub, u) = ap (λ l. sub_in types l field) out ∙ ap (λ o. pair_of o (slice_get (types_or_none (fields_of types c)) field)) is_sub ∙ ap (λ ts. pair_of (Some sub) (slice_get ts field)) (same (fields_of types c)) ∙ ap (pair_of (Some sub)) is_type in
    (found, ap (λ o. found_at types o path) pair ∙ at_path)
  where
    same : (o : Option (List Ty)) → types_or_none o ≡ unwrap_or o []
    same None = refl
    same (Some ts) = refl

pub below_option : (types : List DataDecl) (t u : Ty) (pat sub : Pat) (field : ℕ) (path : List ℕ) (token : ℕ) (c : ConRef) (subs : List Pat) (o : Option Ty) → pat ≡ Con token c subs → slice_get subs field ≡ Some sub → slice_get (field_types types c) field ≡ Some u
    → IfSome o (λ at. HasBelow types u sub path at) → IfSome o (λ at. HasBelow types t pat (field ∷ path) at)
below_option types t u pat sub field path token c subs None is is_sub is_type h = tt
below_option types t u pat sub field path token c subs (Some at) is is_sub is_type h = below_is types t u at pat sub field path token c subs is is_sub is_type h

pub item-is : (xs : List Spot) (k : ℕ) (x d : Spot) → slice_get xs k ≡ Some x → x ≡ get_or xs k d
item-is [] k x d e = absurd cc
item-is (y ∷ xs) zero x d e = sym (same_Some y x e)
item-is (y ∷ xs) (suc k) x d e = item-is xs k x d e

pub saves_spot : (agreed : LaidOut) (source : Source) (path : List ℕ) (k : ℕ) (spot : Spot) (at : Ty) (known : List Known) (old new : Sheet) → IsSpotAt source.spots.now (source.position.now ++ path) at k → (d : Spot) → spot ≡ get_or source.spots.now k d
    → SavesPart agreed source.ty source.leaf path source.words.now spot old new → SavesAt agreed source path known (known ++ Saved k ∷ []) old new
saves_spot agreed source path k spot at known old new (there, is, place, of) d same saves =
    let e : there ≡ spot = item-is source.spots.now k there d is ∙ sym same in
    saves_field agreed source.ty source.leaf path k source.words.now source.spots.now spot source.position.now known old new (is ∙ ap Some e) (ap (λ (x : Spot). x.position) (sym e) ∙ place) saves
