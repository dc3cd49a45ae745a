-- Frames: what one more does.
use Rattle.std.proofs.Common.{◌≡◌, ◌+◌, ◌<◌, ◌≤◌, List, [], ◌∷◌, ◌++◌, map, sum, length, take, drop, ◌-◌, get_or, refl, ap, sym, ◌∙◌, arith, append_assoc}
use Rattle.std.proofs.lemmas.Grind.{common_steps}
use Rattle.rb_core.specs.declared.value.Value.{Value, Con}
use Rattle.rb_core.specs.declared.copying.Frame.{Frame}
use Rattle.rb_core.specs.Values.{node_count}
use Rattle.rb_core.specs.inner.Copying.{filled_frame, filled_stack, nodes_left, nodes_behind}
use Rattle.rb_core.proofs.ValueLaws.{node_count-Con}

pub plugged-push : (fs : List Frame) (f : Frame) (v : Value) → filled_stack (fs ++ f ∷ []) v ≡ filled_stack fs (filled_frame f v)
plugged-push [] f v = refl
plugged-push (g ∷ fs) f v = ap (filled_frame g) (plugged-push fs f v)

pub remaining-push : (fs : List Frame) (f : Frame) → nodes_behind (fs ++ f ∷ []) ≡ nodes_behind fs + nodes_left f
remaining-push fs f = grind (arith, common_steps)

total-cons : (v : Value) (vs : List Value) → sum (map node_count (v ∷ vs)) ≡ node_count v + sum (map node_count vs)
total-cons v vs = grind (arith, common_steps)

pub total-from : (vs : List Value) (first : Value) → 0 < length vs → first ≡ get_or vs 0 first → sum (map node_count vs) ≡ node_count first + sum (map node_count (drop 1 vs))
total-from [] first lt e = absurd (omega arith)
total-from (v ∷ vs) first lt e = let same : first ≡ v = e in rw same (total-cons v vs)

pub list-from : (vs : List Value) (first : Value) → 0 < length vs → first ≡ get_or vs 0 first → first ∷ drop 1 vs ≡ vs
list-from [] first lt e = absurd (omega arith)
list-from (v ∷ vs) first lt e = let same : first ≡ v = e in ap (λ x. x ∷ vs) same

pub ruleset frame_rules = (plugged-push, remaining-push, total-from, list-from, node_count-Con)

-- down into the first subvalue
pub entered : (fs new : List Frame) (f : Frame) (v first : Value) (vs : List Value) → new ≡ fs ++ f ∷ [] → v ≡ Con f.con vs → f.copied ≡ []
    → 0 < length vs → first ≡ get_or vs 0 first → f.rest.now ≡ drop 1 vs
    → (filled_stack new first ≡ filled_stack fs v) × (node_count first + nodes_behind new < node_count v + nodes_behind fs)
entered fs new f v first vs e is none lt here rest =
    let whole : filled_frame f first ≡ v = ap (λ l. Con f.con (l ++ first ∷ f.rest.now)) none ∙ ap (λ l. Con f.con (first ∷ l)) rest ∙ ap (Con f.con) (list-from vs first lt here) ∙ sym is in
    let nodes : node_count v ≡ 1 + sum (map node_count vs) = ap node_count is ∙ node_count-Con f.con vs in
    let here_left : nodes_left f ≡ sum (map node_count (drop 1 vs)) = ap (λ l. sum (map node_count l)) rest in (
      ap (λ l. filled_stack l first) e ∙ plugged-push fs f first ∙ ap (filled_stack fs) whole,
      (let count : nodes_behind new ≡ nodes_behind fs + nodes_left f = ap nodes_behind e ∙ remaining-push fs f in omega (arith, count, here_left, nodes, total-from vs first lt here)),
    )

-- on to the next subvalue
pub turned : (fs frames new : List Frame) (f f' : Frame) (v next : Value) → frames ≡ fs ++ f ∷ [] → new ≡ fs ++ f' ∷ [] → f'.con ≡ f.con → f'.copied ≡ f.copied ++ v ∷ []
    → 0 < length f.rest.now → next ≡ get_or f.rest.now 0 next → f'.rest.now ≡ drop 1 f.rest.now
    → (filled_stack new next ≡ filled_stack frames v) × (node_count next + nodes_behind new ≤ nodes_behind frames)
turned fs frames new f f' v next e e' con copied lt here rest =
    let same : filled_frame f' next ≡ filled_frame f v = ap (λ k. Con k (f'.copied ++ next ∷ f'.rest.now)) con ∙ ap (λ l. Con f.con (l ++ next ∷ f'.rest.now)) copied
    ∙ ap (λ l. Con f.con ((f.copied ++ v ∷ []) ++ next ∷ l)) rest ∙ ap (λ l. Con f.con ((f.copied ++ v ∷ []) ++ l)) (list-from f.rest.now next lt here)
    ∙ ap (Con f.con) (append_assoc f.copied (v ∷ []) f.rest.now) in (
      ap (λ l. filled_stack l next) e' ∙ plugged-push fs f' next ∙ ap (filled_stack fs) same ∙ sym (plugged-push fs f v) ∙ ap (λ l. filled_stack l v) (sym e),
      (let count : nodes_behind new ≡ nodes_behind fs + nodes_left f' = ap nodes_behind e' ∙ remaining-push fs f' in
          let before : nodes_behind frames ≡ nodes_behind fs + nodes_left f = ap nodes_behind e ∙ remaining-push fs f in
          let here_left : nodes_left f' ≡ sum (map node_count (drop 1 f.rest.now)) = ap (λ l. sum (map node_count l)) rest in
          omega (arith, count, before, here_left, total-from f.rest.now next lt here)),
    )

-- a construction is complete
pub closed : (fs frames : List Frame) (f : Frame) (v : Value) (copied : List Value) → frames ≡ fs ++ f ∷ [] → copied ≡ f.copied ++ v ∷ [] → f.rest.now ≡ []
    → (filled_stack fs (Con f.con copied) ≡ filled_stack frames v) × (nodes_behind fs ≤ nodes_behind frames)
closed fs frames f v copied e is none =
    let same : Con f.con copied ≡ filled_frame f v = ap (Con f.con) is ∙ ap (λ l. Con f.con (f.copied ++ v ∷ l)) (sym none) in (
      ap (filled_stack fs) same ∙ sym (plugged-push fs f v) ∙ ap (λ l. filled_stack l v) (sym e),
      (let before : nodes_behind frames ≡ nodes_behind fs + nodes_left f = ap nodes_behind e ∙ remaining-push fs f in omega (arith, before)),
    )

pub rest-from : (vs : List Value) → take (length vs - 1) (drop 1 vs) ≡ drop 1 vs
rest-from vs = grind (arith, common_steps)
