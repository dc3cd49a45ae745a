-- Graphs of numbers, such as those in which cycles of types are looked for: row t lists the numbers to which t leads,
-- its edges. A list of marks says of each number, by its place, whether it is marked.
use Rattle.std.specs.Prelude.{◌≡◌, ℕ, List, [], length, Bool, false, Option, Some, None, slice_get}

-- a row that may be missing, and the empty row where it is
abbrev pub row_in : Option (List ℕ) → List ℕ
row_in None = []
row_in (Some row) = row

-- the numbers to which t leads, in the order of its row; none where the graph has no row t
abbrev pub edges_of : List (List ℕ) → ℕ → List ℕ
edges_of graph t = row_in (slice_get graph t)

-- the graph leads from t to s: some place k of row t has s
abbrev pub Leads : List (List ℕ) → ℕ → ℕ → Type 0
Leads graph t s = (k : ℕ) × (slice_get (edges_of graph t) k ≡ Some s)

-- t is among the edges, at some place k
abbrev pub HasEdge : List ℕ → ℕ → Type 0
HasEdge edges t = (k : ℕ) × (slice_get edges k ≡ Some t)

-- t is not among the edges: what stands at any place k is another number
abbrev pub HasNoEdge : List ℕ → ℕ → Type 0
HasNoEdge edges t = (k s : ℕ) → slice_get edges k ≡ Some s → s ≡ t → ⊥

-- a mark that may be missing, and false where it is
abbrev pub mark_in : Option Bool → Bool
mark_in None = false
mark_in (Some mark) = mark

-- whether number t is marked; one beyond the end of the marks is not
abbrev pub mark_of : List Bool → ℕ → Bool
mark_of marks t = mark_in (slice_get marks t)

-- there are `count` marks, and none of them is set
abbrev pub AreUnmarked : ℕ → List Bool → Type 0
AreUnmarked count marks = (length marks ≡ count) × ((k : ℕ) (m : Bool) → slice_get marks k ≡ Some m → m ≡ false)
