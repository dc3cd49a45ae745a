-- Reading a term by its signs, from left to right. A sign is what a token is to a value. A name waits once its fields
-- have begun, until the parenthesis behind the last of them.
use Rattle.std.specs.Prelude.{◌≡◌, ℕ, ◌+◌, ◌-◌, ◌==◌, if◌then◌else◌, Bool, false, List, [], ◌∷◌, ◌++◌, length, Option, Some, None}
use Rattle.rb_values.specs.declared.sign.Sign.{Sign}
use Rattle.rb_values.specs.declared.sign.Sign.TheVariants as sign
use Rattle.rb_values.specs.declared.outline.Mode.{Mode}
use Rattle.rb_values.specs.declared.outline.Mode.TheVariants as mode
use Rattle.rb_values.specs.declared.outline.Outline.{Outline}
use Rattle.rb_values.specs.Terms.{Term, Terms, number, build, none, also, term_signs, terms_nodes, term_nodes}

-- a name whose fields have begun, with those that are whole
pub record Wait : Type 0 where
  pub at : ℕ
  pub name : List ℕ
  pub fields : Terms

-- a list of terms with one more term at the end
abbrev pub snoc : Terms → Term → Terms
snoc none t = also t none
snoc (also u us) t = also u (snoc us t)

-- the name at byte `at` as its fields begin: none of them is whole yet
abbrev pub waits : ℕ → List ℕ → Wait
waits at name = record { at = at; name = name; fields = none }

-- a name that waits, with one more whole field
abbrev pub longer : Wait → Term → Wait
longer o t = record { at = o.at; name = o.name; fields = snoc o.fields t }

-- the term of a name that waits, where the fields so far are all
abbrev pub whole : Wait → Term
whole o = build o.at o.name o.fields

-- where reading stands: below the names that wait, the innermost first, a value is to begin (`expecting`), a name
-- stands whose fields may begin (`named`), or a value is whole (`complete`)
pub data State : Type 0 where
  expecting : List Wait → State
  named : ℕ → List ℕ → List Wait → State
  complete : Term → List Wait → State

-- the state behind a whole term and one more sign, which is the comma or the parenthesis behind a field of the
-- innermost name that waits; none at other signs, and where no name waits
abbrev pub then_on : Term → List Wait → Sign → Option State
then_on t [] s = None
then_on t (o ∷ os) sign.Comma = Some (expecting (longer o t ∷ os))
then_on t (o ∷ os) sign.Close = Some (complete (whole (longer o t)) os)
then_on t (o ∷ os) sign.Open = None
then_on t (o ∷ os) (sign.Number at n) = None
then_on t (o ∷ os) (sign.Name at x) = None
then_on t (o ∷ os) sign.Other = None

-- the state behind a sign where a value is to begin: a number is whole, and a name stands; none at other signs
abbrev pub after_start : List Wait → Sign → Option State
after_start os (sign.Number at n) = Some (complete (number at n) os)
after_start os (sign.Name at x) = Some (named at x os)
after_start os sign.Open = None
after_start os sign.Close = None
after_start os sign.Comma = None
after_start os sign.Other = None

-- the state behind the name at byte `at` and one more sign: its fields begin, or it is whole without fields and the
-- sign follows it; none where no value goes on with the sign
abbrev pub after_name : ℕ → List ℕ → List Wait → Sign → Option State
after_name at x os sign.Open = Some (expecting (waits at x ∷ os))
after_name at x os sign.Comma = then_on (build at x none) os sign.Comma
after_name at x os sign.Close = then_on (build at x none) os sign.Close
after_name at x os (sign.Number b n) = None
after_name at x os (sign.Name b y) = None
after_name at x os sign.Other = None

-- the state behind one more sign; none where no value goes on with it
abbrev pub step : State → Sign → Option State
step (expecting os) s = after_start os s
step (named at x os) s = after_name at x os s
step (complete t os) s = then_on t os s

-- the term that was read whole, where no name waits; none where a name waits
abbrev pub end_of : Term → List Wait → Option Term
end_of t [] = Some t
end_of t (o ∷ os) = None

-- the term that is read where the signs end in this state; none where no term is whole there
abbrev pub term_of : State → Option Term
term_of (expecting os) = None
term_of (named at x os) = end_of (build at x none) os
term_of (complete t os) = end_of t os

-- goes on with a state; none where there is none
abbrev pub on : Option State → (State → Option Term) → Option Term
on None f = None
on (Some s) f = f s

-- the term that is read where these signs follow on a state and end; none where no term is spelled so
abbrev pub answer : State → List Sign → Option Term
answer s [] = term_of s
answer s (t ∷ ts) = on (step s t) (λ s. answer s ts)

-- the signs of terms, each with a comma behind it, in front of `rest`
abbrev pub each : Terms → List Sign → List Sign
each none rest = rest
each (also t ts) rest = term_signs t (sign.Comma ∷ each ts rest)

-- the signs of the names that wait, the outermost first, with their whole fields, in front of `rest`
abbrev pub signs_of_waits : List Wait → List Sign → List Sign
signs_of_waits [] rest = rest
signs_of_waits (o ∷ os) rest = signs_of_waits os (sign.Name o.at o.name ∷ sign.Open ∷ each o.fields rest)

-- the signs that led to a state, in front of `rest`
abbrev pub signs_of_state : State → List Sign → List Sign
signs_of_state (expecting os) rest = signs_of_waits os rest
signs_of_state (named at x os) rest = signs_of_waits os (sign.Name at x ∷ rest)
signs_of_state (complete t os) rest = signs_of_waits os (term_signs t rest)

-- the signs `ss` lead to state s: the state shows just them, and what follows on them is read as from the state
pub record IsStateOf (ss : List Sign) (s : State) : Type 0 where
  pub said : (rest : List Sign) → signs_of_state s rest ≡ ss ++ rest
  pub same : (rest : List Sign) → answer (expecting []) (ss ++ rest) ≡ answer s rest

-- The outline of a state.

-- the names that wait in a state, the innermost first
abbrev pub waits_of : State → List Wait
waits_of (expecting os) = os
waits_of (named at x os) = os
waits_of (complete t os) = os

-- how many nodes the names that wait and their whole fields have together
abbrev pub waits_nodes : List Wait → ℕ
waits_nodes [] = 0
waits_nodes (o ∷ os) = waits_nodes os + (1 + terms_nodes o.fields)

-- the outline of a state: what may stand next, how many names wait, and how many nodes have begun
abbrev pub outline_of : State → Outline
outline_of (expecting os) = record { mode = mode.Begin; depth = length os; nodes = waits_nodes os }
outline_of (named at x os) = record { mode = mode.Name; depth = length os; nodes = waits_nodes os + 1 }
outline_of (complete t os) = record { mode = mode.Whole; depth = length os; nodes = waits_nodes os + term_nodes t }

-- the outline of a state that may not be there; none where it is not
abbrev pub outline_or_none : Option State → Option Outline
outline_or_none None = None
outline_or_none (Some s) = Some (outline_of s)

-- the outline behind a sign where a value is to begin; none where no value begins with it
abbrev pub outline_begin : Outline → Sign → Option Outline
outline_begin o (sign.Number at n) = Some (record { mode = mode.Whole; depth = o.depth; nodes = o.nodes + 1 })
outline_begin o (sign.Name at x) = Some (record { mode = mode.Name; depth = o.depth; nodes = o.nodes + 1 })
outline_begin o sign.Open = None
outline_begin o sign.Close = None
outline_begin o sign.Comma = None
outline_begin o sign.Other = None

-- the outline behind a sign that follows a whole field of a name that waits, which is a comma or
-- the closing parenthesis; none at other signs
abbrev pub outline_behind : Outline → Sign → Option Outline
outline_behind o sign.Comma = Some (record { mode = mode.Begin; depth = o.depth; nodes = o.nodes })
outline_behind o sign.Close = Some (record { mode = mode.Whole; depth = o.depth - 1; nodes = o.nodes })
outline_behind o sign.Open = None
outline_behind o (sign.Number at n) = None
outline_behind o (sign.Name at x) = None
outline_behind o sign.Other = None

-- the outline behind a sign that follows a whole value; none where no name waits, or where no value goes on so
abbrev pub outline_on : Outline → Sign → Option Outline
outline_on o s = if o.depth == 0 then None else outline_behind o s

-- the outline behind a sign that follows a name: its fields begin, or it is whole without
-- fields and the sign follows it; none where no value goes on with the sign
abbrev pub outline_name : Outline → Sign → Option Outline
outline_name o sign.Open = Some (record { mode = mode.Begin; depth = o.depth + 1; nodes = o.nodes })
outline_name o sign.Comma = outline_on o sign.Comma
outline_name o sign.Close = outline_on o sign.Close
outline_name o (sign.Number at n) = None
outline_name o (sign.Name at x) = None
outline_name o sign.Other = None

-- the outline behind one more sign, by what may stand next; none where no value goes on with it
abbrev pub outline_mode : Mode → Outline → Sign → Option Outline
outline_mode mode.Begin o s = outline_begin o s
outline_mode mode.Name o s = outline_name o s
outline_mode mode.Whole o s = outline_on o s

-- the outline behind one more sign; none where no value goes on with it
abbrev pub outline_step : Outline → Sign → Option Outline
outline_step o s = outline_mode o.mode o s

-- what was read is a whole value: no name waits, and a value is whole or a name stands, which then has no fields
abbrev pub mode_whole : Mode → ℕ → Bool
mode_whole mode.Begin depth = false
mode_whole mode.Name depth = depth == 0
mode_whole mode.Whole depth = depth == 0
