-- Reading by states gives what is spelled, and stops where nothing spelled goes on.
use Rattle.std.proofs.Common.{◌≡◌, ℕ, ◌+◌, ◌-◌, ◌≤◌, ◌==◌, is_some, false, List, [], ◌∷◌, ◌++◌, length, refl, arith, ◌∙◌, ap, sym, append_assoc, Option, Some, None}
use Rattle.std.proofs.lemmas.Grind.{common_steps}
use Rattle.std.proofs.lemmas.List.{append-nil}
use Rattle.rb_values.specs.declared.sign.Sign.{Sign}
use Rattle.rb_values.specs.declared.sign.Sign.TheVariants as sign
use Rattle.rb_values.specs.declared.outline.Mode.{Mode}
use Rattle.rb_values.specs.declared.outline.Mode.TheVariants as mode
use Rattle.rb_values.specs.declared.outline.Outline.{Outline}
use Rattle.rb_values.specs.Terms.{Term, Terms, number, build, none, also, term_signs, in_parens, others, term_nodes, terms_nodes}
use Rattle.rb_values.specs.Reading.{IsSignFront}
use Rattle.rb_values.specs.inner.States.{Wait, snoc, waits, longer, whole, State, expecting, named, complete, then_on, step, end_of, term_of, on, answer, each, signs_of_waits, signs_of_state, IsStateOf, waits_nodes, outline_of, outline_or_none, outline_behind, outline_on, outline_step, mode_whole}

-- what follows a value opens nothing
abbrev Closes : List Sign → Type 0
Closes [] = Unit {0}
Closes (sign.Open ∷ ss) = ⊥
Closes (sign.Number at n ∷ ss) = Unit {0}
Closes (sign.Name at x ∷ ss) = Unit {0}
Closes (sign.Close ∷ ss) = Unit {0}
Closes (sign.Comma ∷ ss) = Unit {0}
Closes (sign.Other ∷ ss) = Unit {0}

bare : (at : ℕ) (x : List ℕ) (os : List Wait) (rest : List Sign) → Closes rest → answer (named at x os) rest ≡ answer (complete (build at x none) os) rest
bare at x os [] c = refl
bare at x os (sign.Open ∷ ss) c = absurd c
bare at x [] (sign.Number b n ∷ ss) c = refl
bare at x (o ∷ os) (sign.Number b n ∷ ss) c = refl
bare at x [] (sign.Name b y ∷ ss) c = refl
bare at x (o ∷ os) (sign.Name b y ∷ ss) c = refl
bare at x [] (sign.Other ∷ ss) c = refl
bare at x (o ∷ os) (sign.Other ∷ ss) c = refl
bare at x os (sign.Close ∷ ss) c = refl
bare at x os (sign.Comma ∷ ss) c = refl

closes_others : (ts : Terms) (rest : List Sign) → Closes (others ts rest)
closes_others none rest = tt
closes_others (also t ts) rest = tt

-- behind a term, more terms
abbrev plus : Terms → Term → Terms → Terms
plus none v ws = also v ws
plus (also u us) v ws = also u (plus us v ws)

plus-snoc : (us : Terms) (v w : Term) (ws : Terms) → plus (snoc us v) w ws ≡ plus us v (also w ws)
plus-snoc none v w ws = refl
plus-snoc (also u us) v w ws = ap (also u) (plus-snoc us v w ws)

plus-none : (us : Terms) (v : Term) → plus us v none ≡ snoc us v
plus-none none v = refl
plus-none (also u us) v = ap (also u) (plus-none us v)

mutual
  pub reads : (t : Term) (os : List Wait) (rest : List Sign) → Closes rest → answer (expecting os) (term_signs t rest) ≡ answer (complete t os) rest
  reads (number at n) os rest c = refl
  reads (build at x none) os rest c = bare at x os rest c
  reads (build at x (also v vs)) os rest c =
      reads v (waits at x ∷ os) (others vs rest) (closes_others vs rest) ∙ read_others vs at x os none v rest

  read_others : (ws : Terms) (at : ℕ) (x : List ℕ) (os : List Wait) (us : Terms) (v : Term) (rest : List Sign) →
      answer (complete v (record { at = at; name = x; fields = us } ∷ os)) (others ws rest) ≡ answer (complete (build at x (plus us v ws)) os) rest
  read_others none at x os us v rest = ap (λ (fs : Terms). answer (complete (build at x fs) os) rest) (sym (plus-none us v))
  read_others (also w ws) at x os us v rest =
      reads w (record { at = at; name = x; fields = snoc us v } ∷ os) (others ws rest) (closes_others ws rest)
      ∙ read_others ws at x os (snoc us v) w rest
      ∙ ap (λ (fs : Terms). answer (complete (build at x fs) os) rest) (plus-snoc us v w ws)

-- a spelled term is read as itself
pub again : (t : Term) → answer (expecting []) (term_signs t []) ≡ Some t
again t = reads t [] [] tt

others_end : (us : Terms) (v : Term) (rest : List Sign) → others (snoc us v) rest ≡ sign.Comma ∷ each us (term_signs v (sign.Close ∷ rest))
others_end none v rest = refl
others_end (also u us) v rest = ap (λ (l : List Sign). sign.Comma ∷ term_signs u l) (others_end us v rest)

parens_end : (us : Terms) (v : Term) (rest : List Sign) → in_parens (snoc us v) rest ≡ sign.Open ∷ each us (term_signs v (sign.Close ∷ rest))
parens_end none v rest = refl
parens_end (also u us) v rest = ap (λ (l : List Sign). sign.Open ∷ term_signs u l) (others_end us v rest)

each_end : (us : Terms) (v : Term) (rest : List Sign) → each (snoc us v) rest ≡ each us (term_signs v (sign.Comma ∷ rest))
each_end none v rest = refl
each_end (also u us) v rest = ap (λ (l : List Sign). term_signs u (sign.Comma ∷ l)) (each_end us v rest)

abbrev Shows : State → Sign → List Sign → Option State → Type 0
Shows s t ts None = Unit {0}
Shows s t ts (Some next) = signs_of_state s (t ∷ ts) ≡ signs_of_state next ts

show_then : (v : Term) (os : List Wait) (t : Sign) (ts : List Sign) → Shows (complete v os) t ts (then_on v os t)
show_then v [] t ts = tt
show_then v (o ∷ os) sign.Comma ts = ap (λ (l : List Sign). signs_of_waits os (sign.Name o.at o.name ∷ sign.Open ∷ l)) (sym (each_end o.fields v ts))
show_then v (o ∷ os) sign.Close ts = ap (λ (l : List Sign). signs_of_waits os (sign.Name o.at o.name ∷ l)) (sym (parens_end o.fields v ts))
show_then v (o ∷ os) sign.Open ts = tt
show_then v (o ∷ os) (sign.Number b n) ts = tt
show_then v (o ∷ os) (sign.Name b x) ts = tt
show_then v (o ∷ os) sign.Other ts = tt

of_bare : (at : ℕ) (x : List ℕ) (os : List Wait) (t : Sign) (ts : List Sign) (o : Option State) → Shows (complete (build at x none) os) t ts o → Shows (named at x os) t ts o
of_bare at x os t ts None h = tt
of_bare at x os t ts (Some s) h = h

show_step : (s : State) (t : Sign) (ts : List Sign) → Shows s t ts (step s t)
show_step (expecting os) (sign.Number b n) ts = refl
show_step (expecting os) (sign.Name b x) ts = refl
show_step (expecting os) sign.Open ts = tt
show_step (expecting os) sign.Close ts = tt
show_step (expecting os) sign.Comma ts = tt
show_step (expecting os) sign.Other ts = tt
show_step (named at x os) sign.Open ts = refl
show_step (named at x os) sign.Comma ts = of_bare at x os sign.Comma ts (then_on (build at x none) os sign.Comma) (show_then (build at x none) os sign.Comma ts)
show_step (named at x os) sign.Close ts = of_bare at x os sign.Close ts (then_on (build at x none) os sign.Close) (show_then (build at x none) os sign.Close ts)
show_step (named at x os) (sign.Number b n) ts = tt
show_step (named at x os) (sign.Name b y) ts = tt
show_step (named at x os) sign.Other ts = tt
show_step (complete v os) t ts = show_then v os t ts

-- Each state can be completed -----------------------------------------------------------------

abbrev closes : List Wait → List Sign
closes [] = []
closes (o ∷ os) = sign.Close ∷ closes os

abbrev wrapped : Term → List Wait → Term
wrapped v [] = v
wrapped v (o ∷ os) = wrapped (whole (longer o v)) os

closing : (v : Term) (os : List Wait) → signs_of_state (complete v os) (closes os) ≡ term_signs (wrapped v os) []
closing v [] = refl
closing v (o ∷ os) = show_then v (o ∷ os) sign.Close (closes os) ∙ closing (whole (longer o v)) os

pub record Ends (s : State) : Type 0 where
  pub tree : Term
  pub more : List Sign
  pub spells : signs_of_state s more ≡ term_signs tree []

ends : (s : State) → Ends s
ends (expecting os) = record { more = sign.Number 0 0 ∷ closes os; tree = wrapped (number 0 0) os; spells = closing (number 0 0) os }
ends (named at x os) = record { more = closes os; tree = wrapped (build at x none) os; spells = closing (build at x none) os }
ends (complete v os) = record { more = closes os; tree = wrapped v os; spells = closing v os }

-- what led to a state is the beginning of a value
pub begins : (ss : List Sign) (s : State) → IsStateOf ss s → IsSignFront ss
begins ss s r = let e = ends s in (e.tree, e.more, sym (r.said e.more) ∙ e.spells)

shown_end : (v w : Term) (os : List Wait) → end_of v os ≡ Some w → signs_of_state (complete v os) [] ≡ term_signs w []
shown_end v w [] e = let s : v ≡ w = cc in ap (λ (t : Term). term_signs t []) s
shown_end v w (o ∷ os) e = cc

shown_whole : (s : State) (v : Term) → term_of s ≡ Some v → signs_of_state s [] ≡ term_signs v []
shown_whole (expecting os) v e = cc
shown_whole (named at x os) v e = shown_end (build at x none) v os e
shown_whole (complete w os) v e = shown_end w v os e

pub reached_first : IsStateOf [] (expecting [])
reached_first = record { said = λ rest. refl; same = λ rest. refl }

pub reached_next : (ss : List Sign) (t : Sign) (s next : State) → IsStateOf ss s → step s t ≡ Some next → IsStateOf (ss ++ t ∷ []) next
reached_next ss t s next r e = record {
  said = λ (rest : List Sign). rw (append_assoc ss (t ∷ []) rest) (sym (rw e at (show_step s t rest)) ∙ r.said (t ∷ rest));
  same = λ (rest : List Sign). rw (append_assoc ss (t ∷ []) rest) (r.same (t ∷ rest) ∙ ap (λ (o : Option State). on o (λ s. answer s rest)) e);
}

some_not_none : (v : Term) → Some v ≡ None → ⊥
some_not_none v e = cc

-- no value goes on with a sign that leads nowhere
pub stops : (ss : List Sign) (t : Sign) (s : State) → IsStateOf ss s → step s t ≡ None → IsSignFront (ss ++ t ∷ []) → ⊥
stops ss t s r e b =
    let v : Term = b.0 in
    let a : answer (expecting []) (ss ++ (t ∷ b.1)) ≡ Some v = ap (answer (expecting [])) (sym (append_assoc ss (t ∷ []) b.1) ∙ b.2) ∙ again v in
    some_not_none v (sym a ∙ r.same (t ∷ b.1) ∙ ap (λ (o : Option State). on o (λ s. answer s b.1)) e)

-- nor is a value whole where its state is not
pub is_part : (ss : List Sign) (s : State) → IsStateOf ss s → term_of s ≡ None → (v : Term) → ss ≡ term_signs v [] → ⊥
is_part ss s r e v same =
    let a : answer (expecting []) ss ≡ Some v = ap (answer (expecting [])) same ∙ again v in
    let b : answer (expecting []) ss ≡ term_of s = ap (answer (expecting [])) (sym (append-nil ss)) ∙ r.same [] in
    some_not_none v (sym a ∙ b ∙ e)

pub is_whole : (ss : List Sign) (s : State) (v : Term) → IsStateOf ss s → term_of s ≡ Some v → ss ≡ term_signs v []
is_whole ss s v r e = sym (append-nil ss) ∙ sym (r.said []) ∙ shown_whole s v e

-- The outline --------------------------------------------------------------------------------

depth_waits : (os : List Wait) → length os ≤ waits_nodes os
depth_waits [] = omega arith
depth_waits (o ∷ os) = let h = depth_waits os in omega (arith, h)

-- there are no more names open than nodes begun
pub depth_within : (s : State) → (outline_of s).depth ≤ (outline_of s).nodes
depth_within (expecting os) = depth_waits os
depth_within (named at x os) = let h = depth_waits os in omega (arith, h)
depth_within (complete t os) = let h = depth_waits os in omega (arith, h)

nodes_snoc : (us : Terms) (t : Term) → terms_nodes (snoc us t) ≡ terms_nodes us + term_nodes t
nodes_snoc none t = omega arith
nodes_snoc (also u us) t = let h = nodes_snoc us t in omega (arith, h)

same_outline : (m : Mode) (d n k : ℕ) → n ≡ k → ◌≡◌ {A = Option Outline} (Some (record { mode = m; depth = d; nodes = n })) (Some (record { mode = m; depth = d; nodes = k }))
same_outline m d n k e = ap {A = ℕ} {B = Option Outline} (λ n. Some (record { mode = m; depth = d; nodes = n })) e

outline_then : (m : Mode) (t : Term) (os : List Wait) (s : Sign) (n : ℕ) → n ≡ waits_nodes os + term_nodes t →
    outline_on (record { mode = m; depth = length os; nodes = n }) s ≡ outline_or_none (then_on t os s)
outline_then m t [] s n e = refl
outline_then m t (o ∷ os) s n e = rw (some_names o os) (behind s) where
  some_names : (o : Wait) (os : List Wait) → (length (o ∷ os) == 0) ≡ false
  some_names o os = grind (arith, common_steps)

  behind : (s : Sign) → outline_behind (record { mode = m; depth = length (o ∷ os); nodes = n }) s ≡ outline_or_none (then_on t (o ∷ os) s)
  behind sign.Comma = let h = nodes_snoc o.fields t in same_outline _ _ _ _ (omega (arith, e, h))
  behind sign.Close = let h = nodes_snoc o.fields t in let d : length (o ∷ os) - 1 ≡ length os = omega arith in rw d (same_outline _ _ _ _ (omega (arith, e, h)))
  behind sign.Open = refl
  behind (sign.Number b k) = refl
  behind (sign.Name b x) = refl
  behind sign.Other = refl

same_open : (d e n k : ℕ) → d + 1 ≡ e → n ≡ k → ◌≡◌ {A = Option Outline} (Some (record { mode = mode.Begin; depth = d + 1; nodes = n })) (Some (record { mode = mode.Begin; depth = e; nodes = k }))
same_open d e n k h g = rw (h, g) refl

-- the outline is that of the state
pub outline_same : (s : State) (t : Sign) → outline_step (outline_of s) t ≡ outline_or_none (step s t)
outline_same (expecting os) (sign.Number b n) = refl
outline_same (expecting os) (sign.Name b x) = refl
outline_same (expecting os) sign.Open = refl
outline_same (expecting os) sign.Close = refl
outline_same (expecting os) sign.Comma = refl
outline_same (expecting os) sign.Other = refl
outline_same (named at x os) sign.Open = same_open (length os) _ _ _ (omega arith) (omega arith)
outline_same (named at x os) sign.Comma = outline_then mode.Name (build at x none) os sign.Comma _ (omega arith)
outline_same (named at x os) sign.Close = outline_then mode.Name (build at x none) os sign.Close _ (omega arith)
outline_same (named at x os) (sign.Number b n) = refl
outline_same (named at x os) (sign.Name b y) = refl
outline_same (named at x os) sign.Other = refl
outline_same (complete t os) s = outline_then mode.Whole t os s (waits_nodes os + term_nodes t) refl

whole_end : (t : Term) (os : List Wait) → (length os == 0) ≡ is_some (end_of t os)
whole_end t [] = refl
whole_end t (o ∷ os) = grind (arith, common_steps)

pub whole_same : (s : State) → mode_whole (outline_of s).mode (outline_of s).depth ≡ is_some (term_of s)
whole_same (expecting os) = refl
whole_same (named at x os) = whole_end (build at x none) os
whole_same (complete t os) = whole_end t os

nodes_end : (t : Term) (os : List Wait) (v : Term) → end_of t os ≡ Some v → waits_nodes os + term_nodes t ≡ term_nodes v
nodes_end t [] v e = let s : t ≡ v = cc in rw s (omega arith)
nodes_end t (o ∷ os) v e = cc

-- the nodes of a whole value
pub nodes_whole : (s : State) (v : Term) → term_of s ≡ Some v → (outline_of s).nodes ≡ term_nodes v
nodes_whole (expecting os) v e = cc
nodes_whole (named at x os) v e = let h = nodes_end (build at x none) os v e in omega (arith, h)
nodes_whole (complete t os) v e = nodes_end t os v e

grows_then : (t : Term) (os : List Wait) (s : Sign) (next : State) → then_on t os s ≡ Some next → (outline_of next).nodes ≡ waits_nodes os + term_nodes t
grows_then t [] s next e = cc
grows_then t (o ∷ os) sign.Comma next e = let n : next ≡ expecting (longer o t ∷ os) = cc in let h = nodes_snoc o.fields t in rw n (omega (arith, h))
grows_then t (o ∷ os) sign.Close next e = let n : next ≡ complete (whole (longer o t)) os = cc in let h = nodes_snoc o.fields t in rw n (omega (arith, h))
grows_then t (o ∷ os) sign.Open next e = cc
grows_then t (o ∷ os) (sign.Number b n) next e = cc
grows_then t (o ∷ os) (sign.Name b x) next e = cc
grows_then t (o ∷ os) sign.Other next e = cc

-- nodes only become more, by one at a time
pub grows : (s : State) (t : Sign) (next : State) → step s t ≡ Some next → ((outline_of s).nodes ≤ (outline_of next).nodes) × ((outline_of next).nodes ≤ (outline_of s).nodes + 1)
grows (expecting os) (sign.Number b k) next e = let n : next ≡ complete (number b k) os = cc in rw n (omega arith, omega arith)
grows (expecting os) (sign.Name b x) next e = let n : next ≡ named b x os = cc in rw n (omega arith, omega arith)
grows (expecting os) sign.Open next e = cc
grows (expecting os) sign.Close next e = cc
grows (expecting os) sign.Comma next e = cc
grows (expecting os) sign.Other next e = cc
grows (named at x os) sign.Open next e = let n : next ≡ expecting (waits at x ∷ os) = cc in rw n (omega arith, omega arith)
grows (named at x os) sign.Comma next e = let h = grows_then (build at x none) os sign.Comma next e in (omega (arith, h), omega (arith, h))
grows (named at x os) sign.Close next e = let h = grows_then (build at x none) os sign.Close next e in (omega (arith, h), omega (arith, h))
grows (named at x os) (sign.Number b n) next e = cc
grows (named at x os) (sign.Name b y) next e = cc
grows (named at x os) sign.Other next e = cc
grows (complete t os) s next e = let h = grows_then t os s next e in (omega (arith, h), omega (arith, h))
