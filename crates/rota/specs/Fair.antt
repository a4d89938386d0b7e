-- What 02 b promises of a rota under every list of its calls, read from the calls and what they reply.
use Rattle.std.specs.Prelude.{ℕ, suc, ◌<◌, ◌≤◌, ◌≡◌, List, [], ◌∷◌, get_or, min, Option, None, Some, IfSome}
use Rattle.rota.specs.Ring.{places}
use Rattle.rota.specs.Call.{Call, tell, turn, Reply, of_tell, of_turn, number_in, refused}
use Rattle.rota.specs.Rota.{fresh_rota, perform}
use Rattle.rota.specs.History.{Event, account, Waits, owed, last_served, noted, advance_all, replies_to}
use Rattle.rota.specs.Follows.{rota_for}
use Rattle.rota.specs.declared.Grant.{Grant}
use Rattle.rota.specs.declared.Rota.{Rota}

-- ---- the calls carried out, each by its contract's own definition, on the rota that the one before handed back

unfoldable pub replies_from : Rota → List Call → List Reply
replies_from r [] = []
replies_from r (c ∷ cs) = (perform r c).reply ∷ replies_from (perform r c).rota cs

unfoldable pub rota_from : Rota → List Call → Rota
rota_from r [] = r
rota_from r (c ∷ cs) = rota_from (perform r c).rota cs

-- the history l, grown by the calls and what they reply
unfoldable pub history_from : Rota → List Event → List Call → List Event
history_from r l [] = l
history_from r l (c ∷ cs) = history_from (perform r c).rota (noted l c (perform r c).reply) cs

-- ---- the turns among some calls

unfoldable pub turns_in : List Call → ℕ
turns_in [] = 0
turns_in (tell h n ∷ cs) = turns_in cs
turns_in (turn ∷ cs) = suc (turns_in cs)

-- what they grant, in order, by what the calls reply

unfoldable pub grants_in : List Reply → List (Option Grant)
grants_in [] = []
grants_in (of_tell n ∷ rs) = grants_in rs
grants_in (of_turn x ∷ rs) = x ∷ grants_in rs

abbrev pub grants_from : Rota → List Call → List (Option Grant)
grants_from r cs = grants_in (replies_from r cs)

-- what a turn grants

abbrev pub grant_in : Reply → Option Grant
grant_in (of_tell n) = None
grant_in (of_turn x) = x

abbrev pub grant_of : Rota → Option Grant
grant_of r = grant_in (perform r turn).reply

-- turn i, counted from 0, names head h
abbrev pub Names : List (Option Grant) → ℕ → ℕ → Type 0
Names gs i h = (n : ℕ) × (get_or gs i None ≡ Some (record { head = h; samples = n }))

-- one of the first k turns does
abbrev pub NamedWithin : List (Option Grant) → ℕ → ℕ → Type 0
NamedWithin gs k h = (i : ℕ) × (i < k) × Names gs i h

-- ---- the statement

-- the grant x is to a head that waits, of these the nearest behind the head that was served last: the lesser of 256 and what it is owed
pub record Due (l : List Event) (x : Grant) : Type 0 where
  pub waits : Waits l x.head
  pub samples : x.samples ≡ min 256 (owed l x.head)
  pub nearest : (g : ℕ) → Waits l g → places (last_served l) x.head ≤ places (last_served l) g

-- the rota r, whose history is l, is fair to every head
pub record FairTo (r : Rota) (l : List Event) : Type 0 where
  -- a turn grants nothing exactly when no head waits
  pub none : grant_of r ≡ None → (h : ℕ) → Waits l h → ⊥
  pub none_waits : ((h : ℕ) → Waits l h → ⊥) → grant_of r ≡ None
  -- the sum granted to a head since its last accepted telling is at most what it was told then, and all of it exactly when it does not wait
  pub most : (h : ℕ) → (account l h).granted ≤ (account l h).told
  pub all : (h : ℕ) → (account l h).granted ≡ (account l h).told → Waits l h → ⊥
  pub only_all : (h : ℕ) → (Waits l h → ⊥) → (account l h).granted ≡ (account l h).told
  -- a head that waits is named by one of the next 12 turns, whatever is told in between
  pub soon : (h : ℕ) (cs : List Call) → Waits l h → 12 ≤ turns_in cs → NamedWithin (grants_from r cs) 12 h
  -- no grant is of 0 samples or of more than 256
  pub shares : IfSome (grant_of r) (λ x. (0 < x.samples) × (x.samples ≤ 256))
  -- while a head waits, no other is named twice before it is
  pub once : (h g i j : ℕ) (cs : List Call) → Waits l h → (g ≡ h → ⊥) → i < j
      → Names (grants_from r cs) i g → Names (grants_from r cs) j g → NamedWithin (grants_from r cs) j h
  -- a grant is to the head whose turn it is, and of what is due to it
  pub due : IfSome (grant_of r) (Due l)

pub record Fair : Type 0 where
  -- after every list of calls from a fresh rota, by what these replied
  pub after : (cs : List Call) → FairTo (rota_from fresh_rota cs) (history_from fresh_rota [] cs)
  -- each call replies what the calls before it say
  pub replies : (cs : List Call) → replies_from fresh_rota cs ≡ replies_to [] cs
  -- the history by what they reply is that by the calls alone, and the rota has left for each head what it is owed
  pub history : (cs : List Call) → history_from fresh_rota [] cs ≡ advance_all [] cs
  pub rota : (cs : List Call) → rota_from fresh_rota cs ≡ rota_for (advance_all [] cs)
  -- a refused telling changes nothing, nor does a turn that grants nothing, of any rota
  pub refused : (r : Rota) (c : Call) → (number_in (perform r c).reply ≡ 0 → ⊥) → perform r c ≡ record { reply = refused (number_in (perform r c).reply) c; rota = r }
  pub idle : (r : Rota) → grant_of r ≡ None → (perform r turn).rota ≡ r
