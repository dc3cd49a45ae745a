-- The subvalues on a path and those that the walk along it came to are the same; and where it stops, a word on the path has the
-- fault, or a step names no field.
use Rattle.std.proofs.Common.{◌≡◌, ℕ, ◌+◌, ◌++◌, inl, inr, List, [], ◌∷◌, length, Option, Some, None, Ok, Err, refl, sym, subst, ap, ◌∙◌, append_assoc, length-append}
use Rattle.std.specs.Prelude.{◌⊎◌}
use Rattle.rb_core.specs.declared.types.DataDecl.{DataDecl}
use Rattle.rb_layout.specs.declared.layout.Layout.{Layout}
use Rattle.rb_image_text.specs.declared.fault.ImageFault.{ImageFault}
use Rattle.rb_image_text.specs.declared.fault.ImageFault.TheVariants.{NoSuchPart}
use Rattle.rb_image_text.specs.declared.image.Image.{Image}
use Rattle.rb_image_text.specs.declared.image.ImageBlock.{ImageBlock}
use Rattle.rb_image_text.specs.Places.{AreInPlace}
use Rattle.rb_image.specs.declared.kept.Kept.{Kept}
use Rattle.rb_image.specs.Fields.{Position, field_of}
use Rattle.rb_image.specs.LeafWords.{block_addresses}
use Rattle.rb_image.specs.Orders.{order_of}
use Rattle.rb_image.specs.Parts.{At}
use Rattle.rb_image.specs.Roots.{kept_from, root_at}
use Rattle.rb_image.specs.Splits.{and_then, or_fault}
use Rattle.rb_image.specs.Ways.{refused_below}
use Rattle.rb_image.proofs.ExaminedParts.{then_ok}
use Rattle.rb_image.proofs.FallLemmas.{same_Ok}
use Rattle.rb_image.proofs.SpotLemmas.{In, flat_map_in, in_append, in_get, in_left, in_right}
use Rattle.rb_peek.specs.Paths.{HasNoPart, HasPathFault, IsEntered, IsKeptAt, IsOnPath, IsStep, part_bits, word_below, words_ahead, words_asked}
use Rattle.rb_peek.specs.Walks.{Waypoint, Where, where_at_root, layout_at, where_after_step, open_data, see, where_settled, step, steps, end_of_path, words_on}
use Rattle.rb_peek.specs.inner.Checking.{all_seen}
use Rattle.rb_peek.proofs.AskedLemmas.{fault_named}
use Rattle.rb_peek.proofs.PathWalks.{Covers, Entered, Finds, Sees, Walks, kept, same_walk, see_err, see_is, step_enters, step_kept, stepped, unless_err, walked_more, walked_on}
use Rattle.rb_peek.proofs.WayParts.{first_is}
use Rattle.rb_peek.proofs.WellLeaves.{AreWell, below_there, no_refusal, refused_part, seen_leaf}

module _ (types : List DataDecl) (layouts : List Layout) (image : Image) (t : ℕ) (path : List ℕ) where
  abbrev m : List ImageBlock
  m = image.blocks

  abbrev root : List Kept
  root = kept_from 0 image.root

  abbrev pub Came : List ℕ → Walks → Type 0
  Came first r = ◌≡◌ {A = Walks} (end_of_path types layouts m t root first) r

  -- Where the walk comes to the end ----------------------------------------------------------
  module _ (end : Where) (came : Came path (Ok end)) where
    rest_of : (first rest : List ℕ) (w : Where) → path ≡ first ++ rest → Came first (Ok w) → ◌≡◌ {A = Walks} (steps types layouts m (length first) w rest) (Ok end)
    rest_of first rest w is here = sym (walked_on types layouts m t root first rest w here) ∙ ap (end_of_path types layouts m t root) (sym is) ∙ came

    -- the subvalues from which one goes on are among those that were passed
    pub step_covered : (w : Where) (i : ℕ) (here : Position) → IsStep types layouts image t path w i here → Covers types layouts m (all_seen end) (where_after_step w i here).last
    step_covered w i here s = step_kept types layouts m s.rest (length s.first) w i here end (rest_of s.first (i ∷ s.rest) w s.is_path s.is_here) s.is_field

    -- so are the subvalues on the path
    pub on_path_covered : (x : At) → IsOnPath types layouts image t path x → Entered types layouts m end x.ty x.words
    on_path_covered x (inl is) =
        let r = then_ok (see layouts m t root) (λ s. steps types layouts m 0 (where_at_root [] s) path) end came in
        let keeps = kept types layouts m path 0 (where_at_root [] r.0) end r.2 in
        subst (λ (y : At). Entered types layouts m end y.ty y.words) (sym is) (record { seen = r.0; is_seen = r.1; covers = keeps.last })
    on_path_covered x (inr e) =
        let s = e.is_step in
        step_enters types layouts m s.rest (length s.first) e.before e.field e.here end x.ty x.words (rest_of s.first (e.field ∷ s.rest) e.before s.is_path s.is_here) s.is_field e.is_data e.is_words

  -- Subvalues that were passed ---------------------------------------------------------------

  -- a subvalue is on the path, and this is its leaf
  pub record IsGood (s : Waypoint) : Type 0 where
    pub on_path : IsOnPath types layouts image t path (record { ty = s.ty; words = s.words })
    pub is_seen : ◌≡◌ {A = Sees} (see layouts m s.ty s.words) (Ok (record s { at = [] }))

  -- and the first step from its leaf is one of the path
  pub record Begins (s : Waypoint) : Type 0 where
    pub field : ℕ
    pub more : List ℕ
    pub before : Where
    pub here : Position
    pub is_path : s.at ≡ field ∷ more
    pub is_step : IsStep types layouts image t path before field here
    pub is_last : before.last ≡ record s { at = [] }

  abbrev pub IsLed : Waypoint → Type 0
  IsLed s = IsGood s × ((s.at ≡ []) ⊎ Begins s)

  abbrev AllLed : Where → Type 0
  AllLed w = (s : Waypoint) → In s (all_seen w) → IsLed s

  led_moved : (w : Where) (i : ℕ) (here : Position) → IsStep types layouts image t path w i here → IsLed w.last → IsLed (where_after_step w i here).last
  led_moved w i here step led = (
    record { on_path = led.0.on_path; is_seen = led.0.is_seen },
    inr (elim led.1 [
      | inl none ↦ record {
        field = i;
        more = [];
        before = w;
        here = here;
        is_path = ap (λ (p : List ℕ). p ++ i ∷ []) none;
        is_step = step;
        is_last = ap (λ (p : List ℕ). record w.last { at = p }) none;
      }
      | inr b ↦ record {
        field = b.field;
        more = b.more ++ i ∷ [];
        before = b.before;
        here = b.here;
        is_path = ap (λ (p : List ℕ). p ++ i ∷ []) b.is_path;
        is_step = b.is_step;
        is_last = b.is_last;
      }
    ]),
  )

  led_new : (ty : ℕ) (ws : List Kept) (s : Waypoint) → IsOnPath types layouts image t path (record { ty = ty; words = ws }) → ◌≡◌ {A = Sees} (see layouts m ty ws) (Ok s) → IsLed s
  led_new ty ws s on seen =
      let is = see_is layouts m ty ws s seen in (
        record {
          on_path = subst (λ n. IsOnPath types layouts image t path (record { ty = n; words = s.words })) (sym is.ty) (subst (λ us. IsOnPath types layouts image t path (record { ty = ty; words = us })) (sym is.words) on);
          is_seen = ap (λ n. see layouts m n s.words) is.ty ∙ ap (see layouts m ty) is.words ∙ seen ∙ ap (λ (p : List ℕ). Ok (record s { at = p })) is.at;
        },
        inl is.at,
      )

  one_more : (w : Where) (s : Waypoint) → In s (w.before ++ w.last ∷ []) → In s w.before ⊎ (s ≡ w.last)
  one_more w s h = elim (in_append s w.before (w.last ∷ []) h) [
    | inl a ↦ inl a
    | inr b ↦ elim b [ inl e ↦ inr e | inr h ↦ absurd h ]
  ]

  led_step : (first rest : List ℕ) (i : ℕ) (w v : Where) → path ≡ first ++ i ∷ rest → Came first (Ok w) → AllLed w
      → ◌≡◌ {A = Walks} (step types layouts m (length first) w i) (Ok v) → AllLed v
  led_step first rest i w v is here led next s h =
      let r = stepped types layouts m (length first) w i v next in
      let is_step : IsStep types layouts image t path w i r.here = record { first = first; rest = rest; is_path = is; is_here = here; is_field = r.is_field } in
      let u = where_after_step w i r.here in
      let led_last : IsLed u.last = led_moved w i r.here is_step (led w.last (in_right w.last w.before (w.last ∷ []) (inl refl))) in
      let led_before = λ (x : Waypoint) (g : In x w.before). led x (in_left x w.before (w.last ∷ []) g) in
      elim r.how [
        | inl inside ↦ elim (one_more u s (subst (λ (x : Where). In s (all_seen x)) inside.is h)) [
          | inl a ↦ led_before s a
          | inr e ↦ subst IsLed (sym e) led_last
        ]
        | inr enters ↦ elim (one_more (where_at_root (w.before ++ u.last ∷ []) enters.next) s (subst (λ (x : Where). In s (all_seen x)) enters.is h)) [
          | inl a ↦ elim (one_more u s a) [
            | inl b ↦ led_before s b
            | inr e ↦ subst IsLed (sym e) led_last
          ]
          | inr e ↦ subst IsLed (sym e) (led_new enters.ty enters.words enters.next
              (inr (record { before = w; field = i; here = r.here; is_step = is_step; is_data = enters.is_data; is_words = enters.is_words })) enters.is_next)
        ]
      ]

  -- one step further
  further : (first rest : List ℕ) (i : ℕ) → path ≡ first ++ i ∷ rest → path ≡ (first ++ i ∷ []) ++ rest
  further first rest i is = is ∙ sym (append_assoc first (i ∷ []) rest)

  longer : (first : List ℕ) (i : ℕ) → length first + 1 ≡ length (first ++ i ∷ [])
  longer first i = sym (length-append first (i ∷ []))

  led_steps : (rest first : List ℕ) (w end : Where) → path ≡ first ++ rest → Came first (Ok w) → AllLed w → ◌≡◌ {A = Walks} (steps types layouts m (length first) w rest) (Ok end) → AllLed end
  led_steps [] first w end is here led e = subst AllLed (same_Ok w end e) led
  led_steps (i ∷ rest) first w end is here led e =
      let r = then_ok (step types layouts m (length first) w i) (λ v. steps types layouts m (length first + 1) v rest) end e in
      led_steps rest (first ++ i ∷ []) r.0 end (further first rest i is) (walked_more types layouts m t root first i w r.0 here r.1) (led_step first rest i w r.0 is here led r.1)
      (ap (λ n. steps types layouts m n r.0 rest) (sym (longer first i)) ∙ r.2)

  one_seen : (s x : Waypoint) → In x (all_seen (where_at_root [] s)) → x ≡ s
  one_seen s x (inl e) = e
  one_seen s x (inr h) = absurd h

  -- the subvalues that were passed are on the path
  pub passed_led : (end : Where) → Came path (Ok end) → (s : Waypoint) → In s (all_seen end) → IsLed s
  passed_led end came =
      let r = then_ok (see layouts m t root) (λ s. steps types layouts m 0 (where_at_root [] s) path) end came in
      led_steps path [] (where_at_root [] r.0) end refl (ap (λ (x : Sees). and_then x (λ s. steps types layouts m 0 (where_at_root [] s) [])) r.1)
      (λ x h. subst IsLed (sym (one_seen r.0 x h)) (led_new t root r.0 (inl refl) r.1)) r.2

  -- Where the walk stops ---------------------------------------------------------------------
  module _ (placed : AreInPlace m) (well : AreWell layouts) where
    abbrev Stops : ImageFault → Type 0
    Stops fault = HasPathFault types layouts image t path (IsOnPath types layouts image t path) fault ⊎ HasNoPart types layouts image t path fault

    -- the splits of a subvalue on the path have a fault
    splits_stop : (x : At) → IsOnPath types layouts image t path x → (fault : ImageFault) → ◌≡◌ {A = Sees} (see layouts m x.ty x.words) (Err fault) → Stops fault
    splits_stop x on fault e =
        let n = fault_named m x.words (layout_at layouts x.ty).tree fault (see_err layouts m x.ty x.words fault e) in
        let g = in_get n.word (words_asked layouts m x) n.there in
        let kept_there : IsKeptAt (words_asked layouts m x) n.word.base n.word.place = record { number = g.0; word = n.word; is_word = g.1; is_base = refl; is_place = refl } in
        inl (record {
          base = n.word.base;
          place = n.word.place;
          on_path = inr (inl (x, on, kept_there));
          subvalue = x;
          is_examined = on;
          is_fault = inl (e, kept_there, n.names);
        })

    -- a pointer on the way to what comes next is refused
    way_stops : (w : Where) (i : ℕ) (here : Position) → IsStep types layouts image t path w i here → IsGood (where_after_step w i here).last → (fault : ImageFault)
        → refused_below m (where_after_step w i here).last.leaf (where_after_step w i here).last.words (block_addresses m (where_after_step w i here).last.leaf (where_after_step w i here).last.words) (where_after_step w i here).last.at (order_of (where_after_step w i here).last.leaf) ≡ Some fault
        → Stops fault
    way_stops w i here is_step good fault e = elim (seen_leaf layouts m well s.ty s.words (record s { at = [] }) good.is_seen) [
      | inl leaf ↦
          let first = first_is m placed s.leaf leaf.flat leaf.once leaf.low s.words s.at fault e in
          let g = in_get first.part (order_of s.leaf) first.there in
          let bits = part_bits m s first.part in
          let there : In bits (words_ahead m s) =
          flat_map_in (word_below m s.leaf s.words (block_addresses m s.leaf s.words) s.at) bits first.part (order_of s.leaf) first.there (below_there m s first.part first.is_read first.leads) in
          let k = in_get bits (words_ahead m s) there in
          inl (record {
            base = bits.base;
            place = bits.place;
            on_path = inr (inr (record {
              before = w;
              field = i;
              here = here;
              is_step = is_step;
              is_kept = record { number = k.0; word = bits; is_word = k.1; is_base = refl; is_place = refl };
            }));
            subvalue = record { ty = s.ty; words = s.words };
            is_examined = good.on_path;
            is_fault = inr (
              record s { at = [] },
              good.is_seen,
              record {
                number = g.0;
                part = first.part;
                is_part = g.1;
                is_read = first.is_read;
                is_base = refl;
                is_place = refl;
                is_fault = refused_part m s.leaf bits first.part.part.kind fault first.is_fault;
              },
            );
          })
      | inr none ↦ absurd (no_refusal m s none fault e)
    ]
      where
        s : Waypoint
        s = (where_after_step w i here).last

    settled_stops : (i : ℕ) (w : Where) (here : Position) → IsStep types layouts image t path w i here → IsGood (where_after_step w i here).last → (o : Option ℕ) → open_data here ≡ o → (fault : ImageFault)
        → ◌≡◌ {A = Walks} (where_settled layouts m (where_after_step w i here) o) (Err fault) → Stops fault
    settled_stops i w here is_step good None opened fault e = absurd cc
    settled_stops i w here is_step good (Some ty) opened fault e = go (words_on layouts m u.last ty) refl e
      where
        u : Where
        u = where_after_step w i here

        on : List Kept → Walks
        on ws = and_then (see layouts m ty ws) (λ s. Ok (where_at_root (u.before ++ u.last ∷ []) s))

        see_stops : (ws : List Kept) → ◌≡◌ {A = Finds} (words_on layouts m u.last ty) (Ok ws) → (r : Sees) → see layouts m ty ws ≡ r
            → ◌≡◌ {A = Walks} (and_then r (λ s. Ok (where_at_root (u.before ++ u.last ∷ []) s))) (Err fault) → Stops fault
        see_stops ws found (Ok s) is h = absurd cc
        see_stops ws found (Err f) is h =
            let entered : IsEntered types layouts image t path (record { ty = ty; words = ws }) =
            record { before = w; field = i; here = here; is_step = is_step; is_data = opened; is_words = found } in
            splits_stop (record { ty = ty; words = ws }) (inr entered) fault (is ∙ ap (λ (x : ImageFault). Err x) (same_walk f fault h))

        go : (r : Finds) → words_on layouts m u.last ty ≡ r → ◌≡◌ {A = Walks} (and_then r on) (Err fault) → Stops fault
        go (Err f) is h = way_stops w i here is_step good fault (unless_err _ _ fault (is ∙ ap (λ (x : ImageFault). Err x) (same_walk f fault h)))
        go (Ok ws) is h = see_stops ws is (see layouts m ty ws) refl h

    step_stops : (first rest : List ℕ) (i : ℕ) (w : Where) → path ≡ first ++ i ∷ rest → Came first (Ok w) → AllLed w → (fault : ImageFault)
        → ◌≡◌ {A = Walks} (step types layouts m (length first) w i) (Err fault) → Stops fault
    step_stops first rest i w is here led fault e = go (field_of types w.here.pat i) refl e
      where
        go : (o : Option Position) → field_of types w.here.pat i ≡ o
            → ◌≡◌ {A = Walks} (and_then (or_fault o (NoSuchPart (length first))) (λ pos. where_settled layouts m (where_after_step w i pos) (open_data pos))) (Err fault) → Stops fault
        go None none h = inr (
          length first,
          sym (same_walk (NoSuchPart (length first)) fault h),
          record {
            first = first;
            field = i;
            rest = rest;
            before = w;
            is_path = is;
            is_number = refl;
            is_here = here;
            is_none = none;
          },
        )
        go (Some pos) some h =
            let is_step : IsStep types layouts image t path w i pos = record { first = first; rest = rest; is_path = is; is_here = here; is_field = some } in
            let last = led_moved w i pos is_step (led w.last (in_right w.last w.before (w.last ∷ []) (inl refl))) in
            settled_stops i w pos is_step last.0 (open_data pos) refl fault h

    steps_stop : (rest first : List ℕ) (w : Where) → path ≡ first ++ rest → Came first (Ok w) → AllLed w → (fault : ImageFault)
        → ◌≡◌ {A = Walks} (steps types layouts m (length first) w rest) (Err fault) → Stops fault
    steps_stop [] first w is here led fault e = absurd cc
    steps_stop (i ∷ rest) first w is here led fault e = go (steps_stop rest (first ++ i ∷ [])) (step types layouts m (length first) w i) refl e
      where
        go : ((v : Where) → path ≡ (first ++ i ∷ []) ++ rest → Came (first ++ i ∷ []) (Ok v) → AllLed v → (f : ImageFault)
            → ◌≡◌ {A = Walks} (steps types layouts m (length (first ++ i ∷ [])) v rest) (Err f) → Stops f) → (r : Walks)
            → step types layouts m (length first) w i ≡ r → ◌≡◌ {A = Walks} (and_then r (λ v. steps types layouts m (length first + 1) v rest)) (Err fault) → Stops fault
        go more (Err f) next h = step_stops first rest i w is here led fault (next ∙ ap (λ (x : ImageFault). Err x) (same_walk f fault h))
        go more (Ok v) next h =
            more v (further first rest i is) (walked_more types layouts m t root first i w v here next) (led_step first rest i w v is here led next) fault
            (ap (λ n. steps types layouts m n v rest) (sym (longer first i)) ∙ h)

    -- where the walk stops, a word on the path has the fault, or the next step names no field
    pub walk_stops : (fault : ImageFault) → Came path (Err fault) → Stops fault
    walk_stops fault e = go (see layouts m t root) refl e
      where
        go : (r : Sees) → see layouts m t root ≡ r → ◌≡◌ {A = Walks} (and_then r (λ s. steps types layouts m 0 (where_at_root [] s) path)) (Err fault) → Stops fault
        go (Err f) is h =
            let same : f ≡ fault = same_walk f fault h in
            splits_stop (root_at t image.root) (inl refl) fault (is ∙ ap (λ (x : ImageFault). Err x) same)
        go (Ok s) is h =
            steps_stop path [] (where_at_root [] s) refl (ap (λ (x : Sees). and_then x (λ s. steps types layouts m 0 (where_at_root [] s) [])) is)
            (λ x g. subst IsLed (sym (one_seen s x g)) (led_new t root s (inl refl) is)) fault h
