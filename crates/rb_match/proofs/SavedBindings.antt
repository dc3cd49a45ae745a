-- Code that binds what stands in saved fields.
use Rattle.std.proofs.Common.{◌≡◌, ℕ, suc, ◌+◌, inl, inr, Bool, true, false, List, [], ◌∷◌, ◌++◌, map, Some, refl, sym, subst, ap, ◌∙◌, arith, get_or}
use Rattle.std.specs.Prelude.{slice_get, if◌then◌else◌}
use Rattle.std.proofs.lemmas.Bool.{false≢true, and_parts}
use Rattle.std.proofs.lemmas.Option.{same_Some}
use Rattle.rb_core.specs.declared.value.Value.{Value, out-Value}
use Rattle.rb_core.specs.declared.types.Ty.{Ty}
use Rattle.rb_core.specs.declared.types.Ty.TheVariants.{Named}
use Rattle.rb_core.specs.declared.types.ConRef.{ConRef}
use Rattle.rb_core.specs.declared.typing.Binder.{Binder}
use Rattle.rb_core.specs.declared.binding.Binding.{Binding}
use Rattle.rb_core.specs.declared.pattern.Pat.{Pat, Con}
use Rattle.rb_core.specs.Inference.{binders, binders_step, all_binders}
use Rattle.rb_core.specs.Matching.{all_bindings, all_pass, bindings, layer_bindings, matches_of}
use Rattle.rb_core.specs.Typing.{field_types}
use Rattle.rb_core.specs.Values.{part_at, subs_in}
use Rattle.rb_core.proofs.MatchingForms.{matches-Con, bindings-Con}
use Rattle.rb_core.proofs.PatternLaws.{fold-Con}
use Rattle.rb_bytes.specs.Memory.{Memory, IsGood}
use Rattle.rb_target.specs.Growth.{Keeps, Nowhere}
use Rattle.rb_target.specs.Meaning.{slots_at}
use Rattle.rb_target.specs.Sheet.{Sheet}
use Rattle.rb_layout.specs.declared.agreed.LaidOut.{LaidOut}
use Rattle.rb_rel.specs.Switches.{depth_of, mend_of}
use Rattle.rb_fragment.specs.declared.held.Local.{Local}
use Rattle.rb_fragment.specs.Holding.{Holds, scope_of}
use Rattle.rb_fragment.specs.Pieces.{AtEnd, CodePiece}
use Rattle.rb_fragment.specs.Plan.{Plan, Rep, words_needed}
use Rattle.rb_fragment.proofs.Adding.{Adds-refl, Adds-trans}
use Rattle.rb_fragment.proofs.Holds.{AllBelow-more, AreGiven-more, AreGiven-append, Holds-append, IsOfLocal-append, slots_at-kept}
use Rattle.rb_fragment.proofs.Moves.{one-from}
use Rattle.rb_fragment.proofs.Pieces.{piece_none}
use Rattle.rb_facts.specs.declared.knowledge.Known.{Known}
use Rattle.rb_facts.specs.declared.knowledge.Spot.{Spot}
use Rattle.rb_match.specs.Bounding.{binding_bound, binding_look}
use Rattle.rb_facts.specs.Looks.{choosing_look, takes_none_apart}
use Rattle.rb_facts.specs.Saving.{AreSpots, Anything, GivesSpots, IsSpotAt, IsThere}
use Rattle.rb_match.specs.Choosing.{BindsPattern}
use Rattle.rb_match.specs.inner.Binding.{AreSeen, BindsSaved, BindsSpot, BindsSpots, FieldMatches, FieldsMatch, SavesTogether, fields_bound, is_unbound}
use Rattle.rb_facts.specs.Knowing.{FollowsSaved, view_of}
use Rattle.rb_match.proofs.Unbound.{unbound_binds}
use Rattle.rb_facts.proofs.Shown.{begins_with}
use Rattle.rb_match.proofs.Bindings.{con_bound, fields_more, kept, scope-append}
use Rattle.rb_facts.proofs.Composing.{pieces, piece_framed, piece_less}
use Rattle.rb_facts.proofs.Following.{known-kept}
use Rattle.rb_facts.proofs.SavedParts.{spots-more, item-is}

-- a field without variables
spot_none : (agreed : LaidOut) (spots : List Spot) (known : List Known) (sub : Pat) (field : Ty) (i : ℕ) (old : Sheet) → ((plan : Plan) → (binders plan.program.types sub field ≡ []) × ((v : Value) → bindings sub v ≡ [])) → BindsSpot agreed spots known sub field i old old []
spot_none agreed spots known sub field i old none = λ plan n of are.
    let k = none plan in
    record {
      adds = Adds-refl plan old;
      is_scope = sym k.0;
      given = tt;
      origin = λ x o. absurd o;
      runs = λ clean v bs parts.
          let Pre : List ℕ → Memory → Type 0 = λ s m. AreSeen plan clean v spots known s m in
          let Post : List ℕ → Memory → Type 0 = λ s m. Holds plan clean s m [] bs in
          piece_less plan old.slots old.slots old old 0 (binding_bound plan.program.types plan.layouts field sub) Pre Pre Post Post (omega arith) (omega arith) (λ s m x. x) (λ s m x. x)
          (piece_none plan old.slots old Pre Post (omega arith) (λ s m pre. subst (λ l. Holds plan clean s m [] l) (sym (parts.3 ∙ k.1 parts.0)) tt));
    }

pub spot_unbound : (agreed : LaidOut) (spots : List Spot) (known : List Known) (sub : Pat) (field : Ty) (i : ℕ) (old : Sheet) → is_unbound sub ≡ true → BindsSpot agreed spots known sub field i old old []
spot_unbound agreed spots known sub field i old none = let n = unbound_binds sub none in spot_none agreed spots known sub field i old (λ plan. (n.0 plan.program.types field, n.1))

-- a field that is saved, bound from its spot
pub spot_binds : (agreed : LaidOut) (spots : List Spot) (known : List Known) (sub : Pat) (field : Ty) (i k : ℕ) (spot : Spot) (old new : Sheet) (bound : List Local) → slice_get spots k ≡ Some spot → spot.position ≡ i ∷ [] → spot.ty ≡ field → FollowsSaved known k
    → BindsPattern agreed field sub spot.slots old new bound → BindsSpot agreed spots known sub field i old new bound
spot_binds agreed spots known sub field i k spot old new bound at place of_type follows binds = λ plan n of are.
    let b = binds plan of (are.below k spot at) (are.count k spot at ∙ ap (words_needed plan) of_type) in
    record {
      adds = b.adds;
      is_scope = b.scope;
      given = b.given;
      origin = λ x o. elim (b.origin x o) [ inl h ↦ (let l = are.low in omega (arith, h, l)) | inr h ↦ one-from n x spot.slots (are.from k spot at) h ];
      runs = λ clean v bs parts.
          let part = parts.0 in
          let most = binding_bound plan.program.types plan.layouts field sub in
          piece_less plan old.slots old.slots old new most most (λ s m. IsGood m × Rep plan m clean field part (slots_at s spot.slots)) (λ s m. AreSeen plan clean v spots known s m)
          (λ s m. Holds plan clean s m bound (bindings sub part)) (λ s m. Holds plan clean s m bound bs) (omega arith) (omega arith)
          (λ s m x. (
            x.0,
            (let h = follows (view_of plan clean v spots s m) x.1 in
                let is : h.0 ≡ spot = same_Some h.0 spot (sym h.1 ∙ at) in
                let here : part_at v h.0.position ≡ Some part = ap (λ (y : Spot). part_at v y.position) is ∙ ap (part_at v) place ∙ parts.1 in
                let same : h.2.0 ≡ part = same_Some h.2.0 part (sym h.2.1 ∙ here) in
                subst (λ u. Rep plan m clean field u (slots_at s spot.slots)) same (subst (λ t. Rep plan m clean t h.2.0 (slots_at s spot.slots)) of_type (subst (λ (y : Spot). Rep plan m clean y.ty h.2.0 (slots_at s y.slots)) is h.2.2))),
          ))
          (λ s m x. subst (λ l. Holds plan clean s m bound l) (sym parts.3) x) (b.runs clean part parts.2);
    }

pub spot_found : (agreed : LaidOut) (spots : List Spot) (known : List Known) (sub : Pat) (field : Ty) (i k : ℕ) (spot d : Spot) (old new : Sheet) (bound : List Local) → IsSpotAt spots (i ∷ []) field k → spot ≡ get_or spots k d → FollowsSaved known k
    → BindsPattern agreed field sub (get_or spots k d).slots old new bound → BindsSpot agreed spots known sub field i old new bound
spot_found agreed spots known sub field i k spot d old new bound (there, is, place, of) same follows binds =
    let e : there ≡ spot = item-is spots k there d is ∙ sym same in
    spot_binds agreed spots known sub field i k spot old new bound (is ∙ ap Some e) (ap (λ (x : Spot). x.position) (sym e) ∙ place) (ap (λ (x : Spot). x.ty) (sym e) ∙ of) follows (subst (λ (x : Spot). BindsPattern agreed field sub x.slots old new bound) (sym same) binds)

pub spots_none : (agreed : LaidOut) (spots : List Spot) (known : List Known) (fields : List Ty) (i : ℕ) (old : Sheet) → BindsSpots agreed spots known [] fields i old old []
spots_none agreed spots known fields i old = λ plan n of are. record {
  adds = Adds-refl plan old;
  is_scope = refl;
  given = tt;
  origin = λ x o. absurd o;
  runs = λ clean v bs parts.
      let Pre : List ℕ → Memory → Type 0 = λ s m. AreSeen plan clean v spots known s m in
      let Post : List ℕ → Memory → Type 0 = λ s m. Holds plan clean s m [] bs in
      piece_less plan old.slots old.slots old old 0 (fields_bound plan [] fields) Pre Pre Post Post (omega arith) (omega arith) (λ s m x. x) (λ s m x. x) (piece_none plan old.slots old Pre Post (omega arith) (λ s m pre. subst (λ l. Holds plan clean s m [] l) (sym parts.3) tt));
}

-- a field, and the others behind it
pub spots_bind : (agreed : LaidOut) (spots : List Spot) (known : List Known) (sub : Pat) (subs : List Pat) (field : Ty) (fields : List Ty) (i : ℕ) (old mid new : Sheet) (bound more : List Local) → BindsSpot agreed spots known sub field i old mid bound
    → BindsSpots agreed spots known subs fields (i + 1) mid new more → BindsSpots agreed spots known (sub ∷ subs) (field ∷ fields) i old new (bound ++ more)
spots_bind agreed spots known sub subs field fields i old mid new bound more first others = λ plan n of are.
    let f = first plan n of are in
    let o = others plan n of (spots-more plan n old.slots mid.slots spots f.adds.more are) in
    record {
      adds = Adds-trans plan old mid new f.adds o.adds;
      is_scope = scope-append bound more ∙ ap (λ l. l ++ scope_of more) f.is_scope ∙ ap (λ l. binders plan.program.types sub field ++ l) o.is_scope;
      given = AreGiven-append plan new.slots bound more (AreGiven-more plan mid.slots new.slots bound o.adds.more f.given) o.given;
      origin = λ x h. elim (IsOfLocal-append x bound more h) [ inl a ↦ f.origin x a | inr a ↦ o.origin x a ];
      runs = λ clean v bs parts. go plan n are f o clean v bs parts.0 parts.1 parts.2 parts.3;
    }
  where
    shifted : (i j : ℕ) → i + suc j ≡ i + 1 + j
    shifted i j = omega arith

    go : (plan : Plan) (n : ℕ) → AreSpots plan n old.slots spots → (f : BindsSaved plan n (binding_bound plan.program.types plan.layouts field sub) spots known (binders plan.program.types sub field) old mid bound (FieldMatches sub i))
        (o : BindsSaved plan n (fields_bound plan subs fields) spots known (all_binders (map (binders plan.program.types) subs) fields) mid new more (FieldsMatch subs (i + 1)))
        → (clean : Bool) (v : Value) (bs : List Binding) (vs : List Value) → ((j : ℕ) → part_at v ((i + j) ∷ []) ≡ slice_get vs j) → all_pass (map matches_of (sub ∷ subs)) vs ≡ true → bs ≡ all_bindings (map bindings (sub ∷ subs)) vs
        → CodePiece plan old.slots old new Nowhere (fields_bound plan (sub ∷ subs) (field ∷ fields)) (λ s m. AreSeen plan clean v spots known s m) (AtEnd new (λ s m. Holds plan clean s m (bound ++ more) bs))
    go plan n are f o clean v bs [] at pass is = absurd (false≢true pass)
    go plan n are f o clean v bs (u ∷ vs) at pass is =
        let b = and_parts (matches_of sub u) (all_pass (map matches_of subs) vs) pass in
        let z : i ≡ i + 0 = omega arith in
        let here : part_at v (i ∷ []) ≡ Some u = ap (λ n. part_at v (n ∷ [])) z ∙ at 0 in
        let Pre : List ℕ → Memory → Type 0 = λ s m. AreSeen plan clean v spots known s m in
        let bs1 = bindings sub u in
        let bs2 = all_bindings (map bindings subs) vs in
        let Has1 : List ℕ → Memory → Type 0 = λ s m. Holds plan clean s m bound bs1 in
        let Has2 : List ℕ → Memory → Type 0 = λ s m. Holds plan clean s m more bs2 in
        let Post : List ℕ → Memory → Type 0 = λ s m. Holds plan clean s m (bound ++ more) bs in
        let Mid : List ℕ → Memory → Type 0 = λ s m. Has1 s m × Pre s m in
        let k1 = binding_bound plan.program.types plan.layouts field sub in
        let k2 = fields_bound plan subs fields in
        let keep_pre : (s s' : List ℕ) (m : Memory) → Keeps old.slots s s' → Pre s m → Pre s' m = λ s s' m k x. (x.0, known-kept old.slots plan clean v spots s s' m k are.below known x.1) in
        let framed = piece_framed plan old.slots old mid k1 Pre Pre Has1 keep_pre (f.runs clean v bs1 (u, here, b.0, refl)) in
        let first1 = piece_less plan old.slots old.slots old mid k1 k1 (λ s m. Pre s m × Pre s m) Pre (λ s m. Pre s m × Has1 s m) Mid (omega arith) (omega arith) (λ s m x. (x, x)) (λ s m x. (x.1, x.0)) framed in
        let framed2 = piece_framed plan mid.slots mid new k2 Has1 Pre Has2 (λ s s' m k x. kept plan mid.slots s s' m k clean bound bs1 f.given x)
        (o.runs clean v bs2 (vs, (λ j. ap (λ n. part_at v (n ∷ [])) (sym (shifted i j)) ∙ at (suc j)), b.1, refl)) in
        let second = piece_less plan mid.slots old.slots mid new k2 k2 Mid Mid (λ s m. Has1 s m × Has2 s m) Post f.adds.more (omega arith) (λ s m x. x) (λ s m x. subst (λ l. Holds plan clean s m (bound ++ more) l) (sym is) (Holds-append plan clean s m bound more bs1 bs2 x.0 x.1)) framed2 in
        let most = fields_more plan sub subs field fields in
        piece_less plan old.slots old.slots old new (k1 + k2) (fields_bound plan (sub ∷ subs) (field ∷ fields)) Pre Pre Post Post (omega arith) (omega (arith, most)) (λ s m x. x) (λ s m x. x) (pieces plan old.slots old mid new k1 k2 Pre Mid Post first1 second)

-- a look that saves is within what binding may cost at a type that is not plain
deep_look : (plan : Plan) (t : ℕ) → takes_none_apart plan.layouts t ≡ false → choosing_look plan.layouts (Named t) ≡ binding_look plan.layouts (Named t)
deep_look plan t deep =
    ap (λ u. depth_of plan.layouts (Named t) + (if u then 0 else mend_of plan.layouts t)) deep ∙ sym (ap (λ u. if u then 0 else depth_of plan.layouts (Named t) + mend_of plan.layouts t) deep)

-- a constructor with several leaves: spots for its fields, the ways of its leaves, and what they save is bound
pub deep_binds : (agreed : LaidOut) (t : Ty) (token : ℕ) (c : ConRef) (subs : List Pat) (words : List ℕ) (spots : List Spot) (known : List Known) (old mid b new : Sheet) (bound : List Local) → takes_none_apart agreed.layouts c.ty ≡ false → t ≡ Named c.ty
    → GivesSpots agreed old mid spots → SavesTogether agreed c words spots known mid b → BindsSpots agreed spots known subs (field_types agreed.covered.program.types c) 0 b new bound → BindsPattern agreed t (Con token c subs) words old new bound
deep_binds agreed t token c subs words spots known old mid b new bound deep named gives saves binds = λ plan of all count.
    let types_is : field_types agreed.covered.program.types c ≡ field_types plan.program.types c = ap (λ (g : Rattle.rb_core.specs.declared.program.Program.Program). field_types g.types c) (sym of.program) in
    let g = gives plan of in
    let more1 = g.straight.adds.more in
    let n = old.slots in
    let sv = saves plan n of g.are (AllBelow-more old.slots mid.slots words more1 all) (count ∙ ap (words_needed plan) named) in
    let more2 = sv.adds.more in
    let are2 = spots-more plan n mid.slots b.slots spots more2 g.are in
    let f = binds plan n of are2 in
    let sum = con_bound plan t token c subs in
    let look = ap (binding_look plan.layouts) named in
    let some = ap (fields_bound plan subs) types_is in
    let cost = deep_look plan c.ty (ap (λ ls. takes_none_apart ls c.ty) of.layouts ∙ deep) in
    let fields = field_types agreed.covered.program.types c in
    let k2 = choosing_look plan.layouts (Named c.ty) in
    let k3 = fields_bound plan subs fields in
    record {
      adds = Adds-trans plan old mid new g.straight.adds (Adds-trans plan mid b new sv.adds f.adds);
      scope = f.is_scope ∙ ap (λ ts. all_binders (map (binders plan.program.types) subs) ts) types_is ∙ sym (ap (λ (h : Ty → List Binder). h t) (fold-Con (Ty → List Binder) (binders_step plan.program.types) token c subs));
      given = f.given;
      origin = λ x o. inl (f.origin x o);
      runs = λ clean v matches.
          let w = begins_with c.con (map matches_of subs) (out-Value v) (sym (matches-Con v token c subs) ∙ matches) in
          let us = w.0 in
          let parts : FieldsMatch subs 0 v (bindings (Con token c subs) v) = (us, (λ j. let z : 0 + j ≡ j = omega arith in ap (λ l. slice_get (subs_in l) (0 + j)) w.1 ∙ ap (slice_get us) z), w.2, bindings-Con v token c subs ∙ ap (layer_bindings (map bindings subs)) w.1) in
          let Pre : List ℕ → Memory → Type 0 = λ s m. IsGood m × Rep plan m clean t v (slots_at s words) in
          let There : List ℕ → Memory → Type 0 = λ s m. IsThere plan clean c.ty v words s m in
          let Seen : List ℕ → Memory → Type 0 = λ s m. AreSeen plan clean v spots known s m in
          let Post : List ℕ → Memory → Type 0 = λ s m. Holds plan clean s m bound (bindings (Con token c subs) v) in
          let keep : (s s' : List ℕ) (m : Memory) → Keeps old.slots s s' → Pre s m → Pre s' m = λ s s' m k x. (x.0, subst (λ ws. Rep plan m clean t v ws) (sym (slots_at-kept old.slots s s' words all k)) x.1) in
          let p1 = piece_less plan n n old mid 0 0 (λ s m. Pre s m × Anything s m) Pre (λ s m. Pre s m × Anything s m) There (omega arith) (omega arith) (λ s m x. (x, tt)) (λ s m x. (x.0.0, subst (λ u. Rep plan m clean u v (slots_at s words)) named x.0.1))
          (piece_framed plan n old mid 0 Pre Anything Anything keep g.straight) in
          let p2 = sv.runs clean v us w.1 in
          let p3 = piece_less plan b.slots n b new k3 k3 Seen Seen Post Post are2.low (omega arith) (λ s m x. x) (λ s m x. x) (f.runs clean v (bindings (Con token c subs) v) parts) in
          let all_pieces = pieces plan n old mid new 0 (k2 + k3) Pre There Post p1 (pieces plan n mid b new k2 k3 There Seen Post p2 p3) in
          piece_less plan n n old new (0 + (k2 + k3)) (binding_bound plan.program.types plan.layouts t (Con token c subs)) Pre Pre Post Post (omega arith) (omega (arith, sum, look, some, cost)) (λ s m x. x) (λ s m x. x) all_pieces;
    }
