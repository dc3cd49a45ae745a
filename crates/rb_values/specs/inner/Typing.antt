-- Fitting a term to a type while it is read. A name waits once its fields have begun, until the parenthesis behind
-- the last; `os` are the names that wait, the innermost first. The frame of a name is what is kept of it: its byte,
-- its constructor where its type has one, how many fields are whole, and whether all nodes before it fit. A state is
-- where reading stands.
use Rattle.std.specs.Prelude.{◌≡◌, ℕ, List, [], ◌∷◌, ◌++◌, Bool, true, false, Option, Some, None, slice_get, unwrap_or}
use Rattle.rb_core.specs.declared.value.Value.{Value}
use Rattle.rb_core.specs.declared.types.Ty.{Ty}
use Rattle.rb_core.specs.declared.types.ConRef.{ConRef}
use Rattle.rb_core.specs.declared.types.DataDecl.{DataDecl}
use Rattle.rb_values.specs.declared.typing.Frame.{Frame}
use Rattle.rb_values.specs.declared.typing.Typing.{Typing}
use Rattle.rb_values.specs.Terms.{Term, build, none, term_count}
use Rattle.rb_values.specs.Fitting.{con_named, con_fields, misfits, misfits_each, first, value_of, values_of}
use Rattle.rb_values.specs.inner.States.{Wait, waits, State, expecting, named, complete, waits_of}

-- What is tried at a type, where one is: below a node that does not fit, and behind the last field, nothing is.

-- the constructor of this name at a type; none where the type has none, or where nothing is tried
abbrev pub con_at : List DataDecl → Option Ty → List ℕ → Option ConRef
con_at types None name = None
con_at types (Some ty) name = con_named types ty name

-- the type of field i of these field types; none where there are no such types, or too few
abbrev pub field_at : Option (List Ty) → ℕ → Option Ty
field_at None i = None
field_at (Some tys) i = slice_get tys i

-- the bytes of the nodes of a term that do not fit the type; no bytes where nothing is tried
abbrev pub misfits_at : List DataDecl → Option Ty → Term → List ℕ
misfits_at types None t = []
misfits_at types (Some ty) t = misfits types t ty

-- the value that a term names at the type, as the only one of a list; no value where nothing is tried
abbrev pub value_at : List DataDecl → Option Ty → Term → List Value
value_at types None t = []
value_at types (Some ty) t = value_of types t ty ∷ []

-- what does not fit of a name at byte `at` and its fields so far: the name, where it has no constructor, else `each`,
-- what does not fit of the fields. Whether there are enough fields is not known yet
abbrev pub fields_misfits : ℕ → (List Ty → List ℕ) → Option (List Ty) → List ℕ
fields_misfits at each None = at ∷ []
fields_misfits at each (Some tys) = each tys

-- the bytes of the nodes that do not fit, of a name that waits and of its whole fields; no
-- bytes where nothing is tried
abbrev pub wait_misfits : List DataDecl → Option Ty → Wait → List ℕ
wait_misfits types None o = []
wait_misfits types (Some ty) o =
    fields_misfits o.at (misfits_each types o.fields) (con_fields types (con_named types ty o.name))

-- the values of the whole fields of a name that waits, where it is tried at this type; no
-- values where it is not tried
abbrev pub wait_values : List DataDecl → Option Ty → Wait → List Value
wait_values types e o = values_of types o.fields (unwrap_or (con_fields types (con_at types e o.name)) [])

-- no node is noted that does not fit
abbrev pub is_clean : Option ℕ → Bool
is_clean None = true
is_clean (Some p) = false

module _ (types : List DataDecl) (root : Ty) where
  -- the type of the next value: `root` where no name waits, else that of the next field of the innermost name that
  -- waits; none where it is not tried
  abbrev pub next_type : List Wait → Option Ty
  next_type [] = Some root
  next_type (o ∷ os) = field_at (con_fields types (con_at types (next_type os) o.name)) (term_count o.fields)

  -- the bytes of the nodes that do not fit, of the names that wait and of their whole fields,
  -- the outermost name first
  abbrev pub faults : List Wait → List ℕ
  faults [] = []
  faults (o ∷ os) = faults os ++ wait_misfits types (next_type os) o

  -- the values of the whole fields of the names that wait, those of the outermost name first
  abbrev pub values_of_waits : List Wait → List Value
  values_of_waits [] = []
  values_of_waits (o ∷ os) = values_of_waits os ++ wait_values types (next_type os) o

  -- the frame of name o, which waits within the names `os`
  abbrev pub frame_of : Wait → List Wait → Frame
  frame_of o os = record {
    at = o.at;
    con = con_at types (next_type os) o.name;
    next = term_count o.fields;
    clean = is_clean (first (faults os));
  }

  -- the frames of the names that wait, the outermost first
  abbrev pub frames_of : List Wait → List Frame
  frames_of [] = []
  frames_of (o ∷ os) = frames_of os ++ frame_of o os ∷ []

  -- the bytes of the nodes that do not fit, of all that is read in a state
  abbrev pub state_faults : State → List ℕ
  state_faults (expecting os) = faults os
  state_faults (named at x os) = faults (waits at x ∷ os)
  state_faults (complete t os) = faults os ++ misfits_at types (next_type os) t

  -- the values that are whole in a state, from left to right; a name whose fields may still begin has none yet
  abbrev pub state_values : State → List Value
  state_values (expecting os) = values_of_waits os
  state_values (named at x os) = values_of_waits (waits at x ∷ os)
  state_values (complete t os) = values_of_waits os ++ value_at types (next_type os) t

  -- the frame of the name that stands last, where its fields may still begin; none in any other state
  abbrev pub state_name : State → Option Frame
  state_name (expecting os) = None
  state_name (named at x os) = Some (frame_of (waits at x) os)
  state_name (complete t os) = None

  -- what is kept of a state: the frames of its names, the name that stands last, the first node that does not fit,
  -- and the values so far where all fit
  pub record IsTypedAs (s : State) (frames : List Frame) (name : Option Frame) (fault : Option ℕ)
      (values : List Value) : Type 0 where
    pub frames_are : frames ≡ frames_of (waits_of s)
    pub name_is : name ≡ state_name s
    pub fault_is : fault ≡ first (state_faults s)
    pub values_are : fault ≡ None → values ≡ state_values s

  -- this is what a typing keeps of a state: frames, the name that stands last, the first node
  -- that does not fit, and values
  abbrev pub IsTyped : State → Typing → Type 0
  IsTyped s t = IsTypedAs s t.frames.items t.name t.fault t.builder

  -- all fields of name o are there, and it waits no more within the names `os`; its fields'
  -- values still stand one by one
  pub record IsClosing (o : Wait) (os : List Wait) (frames : List Frame) (name : Option Frame) (fault : Option ℕ)
      (values : List Value) : Type 0 where
    pub frames_are : frames ≡ frames_of os
    pub name_is : name ≡ None
    pub fault_is : fault ≡ first (faults (o ∷ os))
    pub values_are : fault ≡ None → values ≡ values_of_waits (o ∷ os)

-- the state with a name that stands last taken as whole without fields; any other state as it is
abbrev pub settled_state : State → State
settled_state (expecting os) = expecting os
settled_state (named at x os) = complete (build at x none) os
settled_state (complete t os) = complete t os
