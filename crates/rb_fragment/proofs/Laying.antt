-- What a run owes composes as the source does.
use Rattle.std.proofs.Common.{◌≡◌, ℕ, ◌+◌, ◌≤◌, leb, Bool, true, false, List, [], ◌∷◌, ◌++◌, cond, refl, sym, subst, ap, ◌∙◌, arith, append_assoc}
use Rattle.rb_core.specs.declared.value.Value.{Value}
use Rattle.rb_core.specs.declared.outcome.Event.{Event}
use Rattle.rb_core.specs.declared.outcome.SourceEnd.{SourceEnd}
use Rattle.rb_core.specs.declared.outcome.SourceEnd.TheVariants.{Done, Spent as Stopped}
use Rattle.rb_core.specs.declared.outcome.Outcome.{Outcome}
use Rattle.rb_core.specs.Meaning.{after, at_end, then_do, value_outcome}
use Rattle.rb_bytes.specs.Memory.{Memory, IsGood, least_multiple}
use Rattle.rb_target.specs.Meaning.{World, CallEnd as Run, over}
use Rattle.rb_target.specs.declared.outcome.End.TheVariants.{Full as Filled}
use Rattle.rb_bytes.specs.declared.fault.Full.{Full as Unplaced}
use Rattle.std.proofs.lemmas.List.{append-nil}
use Rattle.rb_bytes.proofs.GrowthLemmas.{Grown-refl, Grown-trans}
use Rattle.rb_bytes.specs.Growth.{Grown}
use Rattle.rb_fragment.specs.Owing.{Does, Ends}
use Rattle.rb_fragment.specs.Plan.{cost_at, Plan, cost_of}
use Rattle.rb_rel.specs.Placing.{Fits, Laid, Over, Request, block_before, lay, requests_at, requests_of}

abbrev pub all_behind : List (ℕ × ℕ) → Laid → Laid
all_behind bs (Fits cs p) = Fits (bs ++ cs) p
all_behind bs (Over r) = Over r

abbrev pub then_lay : ℕ → Laid → List Request → Laid
then_lay limit (Over r) qs = Over r
then_lay limit (Fits bs p) qs = all_behind bs (lay limit p qs)

behind_none : (l : Laid) → l ≡ all_behind [] l
behind_none (Fits bs p) = refl
behind_none (Over r) = refl

behind_twice : (x : ℕ × ℕ) (bs : List (ℕ × ℕ)) (l : Laid) → block_before x (all_behind bs l) ≡ all_behind (x ∷ bs) l
behind_twice x bs (Fits cs p) = refl
behind_twice x bs (Over r) = refl

behind_then : (limit : ℕ) (x : ℕ × ℕ) (l : Laid) (qs : List Request) → block_before x (then_lay limit l qs) ≡ then_lay limit (block_before x l) qs
behind_then limit x (Fits bs p) qs = behind_twice x bs (lay limit p qs)
behind_then limit x (Over r) qs = refl

-- requests behind others are laid behind them
pub lay-append : (limit p : ℕ) (qs rs : List Request) → lay limit p (qs ++ rs) ≡ then_lay limit (lay limit p qs) rs
lay-append limit p [] rs = behind_none (lay limit p rs)
lay-append limit p (q ∷ qs) rs =
    let at = least_multiple p q.align in
    let no : Laid = Over (record { next = p; size = q.size; align = q.align; limit = limit }) in
    let P : Bool → Type 0 = λ t. cond t (block_before (at, q.size) (lay limit (at + q.size) (qs ++ rs))) no ≡ then_lay limit (cond t (block_before (at, q.size) (lay limit (at + q.size) qs)) no) rs in
    elim (leb (at + q.size) limit) as P [
      | true ↦ ap (λ l. block_before (at, q.size) l) (lay-append limit (at + q.size) qs rs) ∙ behind_then limit (at, q.size) (lay limit (at + q.size) qs) rs
      | false ↦ refl
    ]

module _ (plan : Plan) where
  requests_of-append : (a b : List Event) → requests_of plan.layouts (a ++ b) ≡ requests_of plan.layouts a ++ requests_of plan.layouts b
  requests_of-append [] b = refl
  requests_of-append (v ∷ a) b =
      ap (λ l. requests_at plan.layouts v ++ l) (requests_of-append a b) ∙ sym (append_assoc (requests_at plan.layouts v) (requests_of plan.layouts a) (requests_of plan.layouts b))

  cost_of-append : (a b : List Event) → cost_of plan (a ++ b) ≡ cost_of plan a + cost_of plan b
  cost_of-append [] b = omega arith
  cost_of-append (v ∷ a) b = omega (arith, cost_of-append a b)

  lay_log : (limit p : ℕ) (a b : List Event) → lay limit p (requests_of plan.layouts (a ++ b)) ≡ then_lay limit (lay limit p (requests_of plan.layouts a)) (requests_of plan.layouts b)
  lay_log limit p a b = ap (λ l. lay limit p l) (requests_of-append a b) ∙ lay-append limit p (requests_of plan.layouts a) (requests_of plan.layouts b)

  module _ (out : Run) (Ok : Value → World → Type 0) where
    behind_ends : (most most1 : ℕ) (m m1 : Memory) (bs : List (ℕ × ℕ)) (p : ℕ) → most1 ≤ most → Grown m m1 bs p → (l : Laid) (e : SourceEnd) → Ends most1 out m1 l e Ok → Ends most out m (all_behind bs l) e Ok
    behind_ends most most1 m m1 bs p le g (Fits cs q) (Done v left) h = (h.0, Grown-trans _ _ _ bs cs p q g h.1, h.2, omega (arith, h.3, le), h.4)
    behind_ends most most1 m m1 bs p le g (Fits cs q) Stopped h = (h.0, h.1, omega (arith, h.2, le))
    behind_ends most most1 m m1 bs p le g (Over r) e h = (h.0, h.1, omega (arith, h.2, le))

    bind_ends : (Mid : Value → World → Type 0) (base : ℕ) (log : List Event) (m : Memory) (go : Value → ℕ → Outcome)
        → ((v : Value) (w1 : World) (bs : List (ℕ × ℕ)) (p : ℕ) → Grown m w1.memory bs p → Mid v w1 → Does plan w1.switches out w1.memory (go v w1.left) Ok)
        → (l : Laid) (e : SourceEnd) → Ends (base + cost_of plan log) out m l e Mid
        → Ends (base + (cost_of plan log + cost_of plan (at_end e go).log)) out m (then_lay m.limit l (requests_of plan.layouts (at_end e go).log)) (at_end e go).end Ok
    bind_ends Mid base log m go next (Fits bs p) (Done v left) h =
        let w1 = h.0 in let g = h.1 in
        let d = next v w1 bs p g h.4 in
        let d1 = subst (λ k. Does plan w1.switches out w1.memory (go v k) Ok) h.2 d in
        let most1 = w1.switches + cost_of plan (go v left).log in
        let d2 = subst (λ k. Ends most1 out w1.memory (lay k w1.memory.next (requests_of plan.layouts (go v left).log)) (go v left).end Ok) g.limit d1 in
        let d3 = subst (λ k. Ends most1 out w1.memory (lay m.limit k (requests_of plan.layouts (go v left).log)) (go v left).end Ok) g.next d2 in
        behind_ends (base + (cost_of plan log + cost_of plan (go v left).log)) most1 m w1.memory bs p (omega (arith, h.3)) g (lay m.limit p (requests_of plan.layouts (go v left).log)) (go v left).end d3
    bind_ends Mid base log m go next (Fits bs p) Stopped h = (h.0, h.1, omega (arith, h.2))
    bind_ends Mid base log m go next (Over r) e h = (h.0, h.1, omega (arith, h.2))

    -- a part, and then what follows it: the blocks stand one behind the other, and the bounds add up
    pub bind : (Mid : Value → World → Type 0) (base : ℕ) (m : Memory) (o : Outcome) (go : Value → ℕ → Outcome) → Does plan base out m o Mid
        → ((v : Value) (w1 : World) (bs : List (ℕ × ℕ)) (p : ℕ) → Grown m w1.memory bs p → Mid v w1 → Does plan w1.switches out w1.memory (go v w1.left) Ok)
        → Does plan base out m (then_do o go) Ok
    unfolding then_do
    bind Mid base m o go d next =
        let most = base + (cost_of plan o.log + cost_of plan (at_end o.end go).log) in
        let sum : most ≡ base + cost_of plan (o.log ++ (at_end o.end go).log) = ap (λ k. base + k) (sym (cost_of-append o.log (at_end o.end go).log)) in
        subst (λ k. Ends k out m (lay m.limit m.next (requests_of plan.layouts (o.log ++ (at_end o.end go).log))) (at_end o.end go).end Ok) sum
        (subst (λ l. Ends most out m l (at_end o.end go).end Ok) (sym (lay_log m.limit m.next o.log (at_end o.end go).log))
        (bind_ends Mid base o.log m go next (lay m.limit m.next (requests_of plan.layouts o.log)) o.end d))

    -- nothing is built
    pub unit : (base : ℕ) (m : Memory) (left : ℕ) (w : World) (v : Value) → IsGood m → w.memory ≡ m → w.left ≡ left → w.switches ≤ base → Ok v w → Does plan base out m (value_outcome v left) Ok
    unit base m left w v good same same_left few ok =
        (w, subst (λ k. Grown m k [] m.next) (sym same) (Grown-refl m good), same_left, omega (arith, few), ok)

  -- the same run by another name, a greater base and less of what holds at the end
  map_ends : (most most1 : ℕ) (out out1 : Run) (Ok Ok1 : Value → World → Type 0) (m : Memory) → most1 ≤ most → out ≡ out1 → ((v : Value) (w' : World) → Ok1 v w' → Ok v w') → (l : Laid) (e : SourceEnd) → Ends most1 out1 m l e Ok1 → Ends most out m l e Ok
  map_ends most most1 out out1 Ok Ok1 m le eq f (Fits bs p) (Done v left) h = (h.0, h.1, h.2, omega (arith, h.3, le), f v h.0 h.4)
  map_ends most most1 out out1 Ok Ok1 m le eq f (Fits bs p) Stopped h = (h.0, eq ∙ h.1, omega (arith, h.2, le))
  map_ends most most1 out out1 Ok Ok1 m le eq f (Over r) e h = (h.0, eq ∙ h.1, omega (arith, h.2, le))

  pub does_map : (base base1 : ℕ) (out out1 : Run) (Ok Ok1 : Value → World → Type 0) (m : Memory) (o : Outcome) → base1 ≤ base → out ≡ out1 → ((v : Value) (w' : World) → Ok1 v w' → Ok v w') → Does plan base1 out1 m o Ok1 → Does plan base out m o Ok
  does_map base base1 out out1 Ok Ok1 m o le eq f d =
      map_ends (base + cost_of plan o.log) (base1 + cost_of plan o.log) out out1 Ok Ok1 m (omega (arith, le)) eq f (lay m.limit m.next (requests_of plan.layouts o.log)) o.end d

  -- a later world in place of the one at the end, with the same memory, calls left and switches
  abbrev pub Later : (Value → World → Type 0) → Value → World → Type 0
  Later Ok v w' = (w'' : World) × (w''.memory ≡ w'.memory) × (w''.left ≡ w'.left) × (w''.switches ≤ w'.switches) × Ok v w''

  later_ends : (most : ℕ) (out : Run) (Ok Ok1 : Value → World → Type 0) (m : Memory) → ((v : Value) (w' : World) → Ok1 v w' → Later Ok v w') → (l : Laid) (e : SourceEnd) → Ends most out m l e Ok1 → Ends most out m l e Ok
  later_ends most out Ok Ok1 m f (Fits bs p) (Done v left) h =
      let r = f v h.0 h.4 in
      (r.0, subst (λ k. Grown m k bs p) (sym r.1) h.1, r.2 ∙ h.2, omega (arith, h.3, r.3), r.4)
  later_ends most out Ok Ok1 m f (Fits bs p) Stopped h = h
  later_ends most out Ok Ok1 m f (Over r) e h = h

  pub does_later : (base : ℕ) (out : Run) (Ok Ok1 : Value → World → Type 0) (m : Memory) (o : Outcome) → ((v : Value) (w' : World) → Ok1 v w' → Later Ok v w') → Does plan base out m o Ok1 → Does plan base out m o Ok
  does_later base out Ok Ok1 m o f d = later_ends (base + cost_of plan o.log) out Ok Ok1 m f (lay m.limit m.next (requests_of plan.layouts o.log)) o.end d

  -- one event: where its requests fit, the memory has their blocks more; else the first that does not is asked for
  pub event_fits : (base : ℕ) (out : Run) (m : Memory) (e : Event) (v : Value) (left p : ℕ) (bs : List (ℕ × ℕ)) (w : World) (Ok : Value → World → Type 0) → lay m.limit m.next (requests_at plan.layouts e) ≡ Fits bs p
      → Grown m w.memory bs p → w.left ≡ left → w.switches ≤ base + cost_at plan e → Ok v w → Does plan base out m (after (e ∷ []) (value_outcome v left)) Ok
  event_fits base out m e v left p bs w Ok fits grown same few ok =
      let one : requests_at plan.layouts e ++ [] ≡ requests_at plan.layouts e = append-nil (requests_at plan.layouts e) in
      let most = base + cost_of plan (e ∷ []) in
      subst (λ qs. Ends most out m (lay m.limit m.next qs) (Done v left) Ok) (sym one)
      (subst (λ l. Ends most out m l (Done v left) Ok) (sym fits) (w, grown, same, omega (arith, few), ok))

  pub event_over : (base : ℕ) (out : Run) (m : Memory) (e : Event) (v : Value) (left : ℕ) (full : Unplaced) (w : World) (Ok : Value → World → Type 0) → lay m.limit m.next (requests_at plan.layouts e) ≡ Over full
      → out ≡ over (Filled full) w → w.switches ≤ base + cost_at plan e → Does plan base out m (after (e ∷ []) (value_outcome v left)) Ok
  event_over base out m e v left full w Ok fits is few =
      let one : requests_at plan.layouts e ++ [] ≡ requests_at plan.layouts e = append-nil (requests_at plan.layouts e) in
      let most = base + cost_of plan (e ∷ []) in
      subst (λ qs. Ends most out m (lay m.limit m.next qs) (Done v left) Ok) (sym one)
      (subst (λ l. Ends most out m l (Done v left) Ok) (sym fits) (w, is, omega (arith, few)))
