-- What ends of blocks want of sources that are shown later, and which nets meet it (own). Wants of
-- one feed, which is a hub with its frames and with what its registers have first, share a chain.
use Rattle.std.specs.Prelude.{◌≡◌, ℕ, zero, suc, ◌+◌, ◌<◌, ◌≤◌, ◌⊎◌, ◌≢◌, ◌++◌, ◌∷◌, if◌then◌else◌, take, ℤ, pos, true, Bool, All, List, [], length, Option, None, Some, is_some, slice_get, slice_index_or, map, ⊤}
use Rattle.hw_net.specs.Circuit.{Circuit}
use Rattle.hw_net.specs.declared.netlist.Frame.{Frame}
use Rattle.hw_net.specs.declared.netlist.Net.{Net}
use Rattle.hw_net.specs.declared.netlist.NetKind.{NetKind}
use Rattle.hw_net.specs.declared.netlist.NetKind.TheVariants.{Comb, Reg, EnReg, Acc, Bridge, Unit, Counter}
use Rattle.hw_net.specs.Frames.{CountersDiffer, register_count}
use Rattle.hw_net.specs.Growing.{Extends}
use Rattle.hw_net.specs.Netlist.{HasWord}
use Rattle.hw_lines.specs.declared.source.Source.{Source}
use Rattle.hw_lines.specs.declared.source.Use.{Use}
use Rattle.hw_lines.specs.Chain.{source_of, reader_of, IsCountedIn, most_frames, different, parted_frames, IsSource, IsUse, IsAnswer, AreAnswers, IsChained}
use Rattle.hw_build.specs.declared.wants.Feed.{Feed}
use Rattle.hw_build.specs.declared.wants.Want.{Want}
use Rattle.hw_build.specs.declared.wants.Class.{Class}
use Rattle.hw_build.specs.declared.wants.Seat.{Seat}
use Rattle.hw_build.specs.inner.Feeds.{is_same_feed, number_at_feed}
use Rattle.hw_build.specs.inner.Growth.{GoesOn}
use Rattle.hw_build.specs.inner.Levels.{IsLevelled}
use Rattle.hw_build.specs.inner.Soundness.{AreSound}

-- ---- wants and their classes

-- what a chain has first: no matter what, where its readers have no registers
abbrev pub first_of : Option ℤ → ℤ
first_of None = pos 0
first_of (Some first) = first

-- a feed, as a chain is asked for it
abbrev pub source_by : Feed → Source
source_by feed = source_of feed.hub feed.frame (first_of feed.first) (is_some feed.first)

-- a chain can be asked for this
pub record IsWant (net : Circuit) (want : Want) : Type 0 where
  pub source : IsSource net (source_by want.feed)
  pub asked : IsUse (source_by want.feed) want.to

-- and for all of a class
pub record IsClass (net : Circuit) (one : Class) : Type 0 where
  pub source : IsSource net (source_by one.feed)
  pub asked : All (IsUse (source_by one.feed)) one.uses.items

pub record AreClasses (net : Circuit) (classes : List Class) : Type 0 where
  pub each : (c : ℕ) (one : Class) → slice_get classes c ≡ Some one → IsClass net one

pub record AreWants (net : Circuit) (wants : List Want) : Type 0 where
  pub each : (k : ℕ) (want : Want) → slice_get wants k ≡ Some want → IsWant net want

-- the class of this number is of the feed
pub record HasFeed (classes : List Class) (feed : Feed) (number : ℕ) : Type 0 where
  pub one : Class
  pub is : slice_get classes number ≡ Some one
  pub same : one.feed ≡ feed

-- the class of a feed, which is put behind the others if need be
pub record IsClassFor (old new : List Class) (feed : Feed) (number : ℕ) : Type 0 where
  pub grown : (new ≡ old)
      ⊎ ((one : Class) × (new ≡ old ++ one ∷ []) × (one.uses.items ≡ []) × (number ≡ length old)
      × ((c : ℕ) (other : Class) → slice_get old c ≡ Some other → other.feed ≢ feed))
  pub has : HasFeed new feed number

-- an index has the class of each feed
pub record AreIndexed (classes : List Class) (index : List (Feed × ℕ)) : Type 0 where
  pub found : (feed : Feed) (number : ℕ) → number_at_feed index feed ≡ Some number
      → HasFeed classes feed number
  pub none : (feed : Feed) → number_at_feed index feed ≡ None → (c : ℕ) (one : Class)
      → slice_get classes c ≡ Some one → one.feed ≢ feed

-- the uses of a feed, in the order of their wants
abbrev pub uses_of_feed : Feed → List Want → List Use
uses_of_feed feed [] = []
uses_of_feed feed (want ∷ wants) =
    if is_same_feed feed want.feed then want.to ∷ uses_of_feed feed wants
    else uses_of_feed feed wants

-- a class is that of a want, and has all of its feed
pub record IsFolded (wants : List Want) (one : Class) : Type 0 where
  pub place : ℕ
  pub want : Want
  pub at : slice_get wants place ≡ Some want
  pub same : want.feed ≡ one.feed
  pub uses_are : one.uses.items ≡ uses_of_feed one.feed wants

-- wants of one feed have one class
pub record AreFolded (wants : List Want) (classes : List Class) : Type 0 where
  pub differ : (c d : ℕ) (one other : Class) → c < d → slice_get classes c ≡ Some one
      → slice_get classes d ≡ Some other → one.feed ≢ other.feed
  pub each : (c : ℕ) (one : Class) → slice_get classes c ≡ Some one → IsFolded wants one
  pub covered : (k : ℕ) (want : Want) → slice_get wants k ≡ Some want → (number : ℕ)
      × HasFeed classes want.feed number

-- a want has its place in a class
pub record IsSeat (classes : List Class) (want : Want) (seat : Seat) : Type 0 where
  pub one : Class
  pub is : slice_get classes seat.class ≡ Some one
  pub same : one.feed ≡ want.feed
  pub at : slice_get one.uses.items seat.place ≡ Some want.to

-- classes keep their feeds, and their uses the places
pub record KeepsUses (old new : Class) : Type 0 where
  pub same : new.feed ≡ old.feed
  pub uses : (p : ℕ) (one : Use) → slice_get old.uses.items p ≡ Some one
      → slice_get new.uses.items p ≡ Some one

pub record KeepsClass (new : List Class) (c : ℕ) (old : Class) : Type 0 where
  pub one : Class
  pub is : slice_get new c ≡ Some one
  pub keeps : KeepsUses old one

pub record KeepsClasses (old new : List Class) : Type 0 where
  pub each : (c : ℕ) (one : Class) → slice_get old c ≡ Some one → KeepsClass new c one

-- one more want has its place
pub record IsSeated (old new : List Class) (want : Want) (seat : Seat) : Type 0 where
  pub keeps : KeepsClasses old new
  pub seat_is : IsSeat new want seat
  pub sound : (net : Circuit) → IsWant net want → AreClasses net old → AreClasses net new
  pub folded : (wants : List Want) → AreFolded wants old → AreFolded (wants ++ want ∷ []) new

-- the first wants have
pub record AreSeated (wants : List Want) (classes : List Class) (seats : List Seat)
    (count : ℕ) : Type 0 where
  pub size : length seats ≡ count
  pub each : (k : ℕ) (want : Want) (seat : Seat) → slice_get wants k ≡ Some want
      → slice_get seats k ≡ Some seat → IsSeat classes want seat
  pub sound : (net : Circuit) → AreWants net wants → AreClasses net classes
  pub folded : AreFolded (take count wants) classes

-- ---- their nets

-- a netlist whose hubs stand and whose other nets are sound
pub record IsBegun (closed hubs ports : ℕ) (now : Circuit) (level : ℕ → ℕ) : Type 0 where
  pub there : hubs ≤ length now.nets
  pub inputs : length now.inputs ≤ ports
  pub sound : AreSound closed hubs now ports
  pub levelled : IsLevelled now.nets level
  pub differ : CountersDiffer now.nets

-- the net of this number meets a want: a chain that was put in once answered it, it has the word of
-- its hub and stands at the most one level above it, a register on level 0
pub record IsMetBy (closed hubs : ℕ) (now : Circuit) (level : ℕ → ℕ) (feed : Feed) (one : Use)
    (number : ℕ) : Type 0 where
  pub was : Circuit
  pub next : Circuit
  pub small : hubs ≤ length was.nets
  pub grown : Extends was next
  pub cycles : was.cycles ≡ now.cycles
  pub goes : GoesOn closed hubs next now
  pub answer : IsAnswer was next (source_by feed) (reader_of (source_by feed) one) number
  pub word : (width : ℕ) (signed : Bool) → HasWord now.nets feed.hub width signed
      → HasWord now.nets number width signed
  pub source_inside : feed.hub < length now.nets
  pub inside : number < length now.nets
  pub low : level number ≤ level feed.hub + 1
  pub late : is_some feed.first ≡ true → level number ≡ 0

-- the netlist goes on from another, on levels that stay
pub record GoesOnBegun (closed hubs ports : ℕ) (before : Circuit) (level : ℕ → ℕ) (now : Circuit)
    (next : ℕ → ℕ) : Type 0 where
  pub begun : IsBegun closed hubs ports now next
  pub same : (k : ℕ) → k < length before.nets → next k ≡ level k

-- the nets of a class meet it
pub record IsClassMet (closed hubs : ℕ) (now : Circuit) (level : ℕ → ℕ) (one : Class)
    (numbers : List ℕ) : Type 0 where
  pub each : (p : ℕ) (asked : Use) (number : ℕ) → slice_get one.uses.items p ≡ Some asked
      → slice_get numbers p ≡ Some number → IsMetBy closed hubs now level one.feed asked number

pub record AreClassesMet (closed hubs ports : ℕ) (before : Circuit) (level : ℕ → ℕ) (now : Circuit)
    (classes : List Class) (answers : List (List ℕ)) : Type 0 where
  pub next : ℕ → ℕ
  pub goes : GoesOnBegun closed hubs ports before level now next
  pub each : (c : ℕ) (one : Class) (numbers : List ℕ) → slice_get classes c ≡ Some one
      → slice_get answers c ≡ Some numbers → IsClassMet closed hubs now next one numbers

-- what a chain puts in: no multiplication, and no register that is enabled
abbrev pub IsLinePart : NetKind → Type 0
IsLinePart (Comb op args) = ⊥
IsLinePart (Reg frame slot first from) = ⊤
IsLinePart (EnReg frame enable reset first from) = ⊥
IsLinePart (Acc frame enable from) = ⊥
IsLinePart (Bridge frame live from) = ⊤
IsLinePart (Unit left right) = ⊥
IsLinePart (Counter frame) = ⊤

-- that is all that stands behind a netlist
pub record AreLineParts (before now : Circuit) : Type 0 where
  pub each : (k : ℕ) (net : Net) → length before.nets ≤ k → slice_get now.nets k ≡ Some net
      → IsLinePart net.kind

-- each Counter that was put in counts a frame of a class
pub record AreCounted (before now : Circuit) (classes : List Class) : Type 0 where
  pub each : (k : ℕ) (net : Net) (frame : Frame) → length before.nets ≤ k
      → slice_get now.nets k ≡ Some net → net.kind ≡ Counter frame
      → (c : ℕ) × (one : Class) × (slice_get classes c ≡ Some one)
      × IsCountedIn (source_by one.feed) one.uses.items frame

-- the registers of the chain of a class, and of the first classes, at the most
abbrev pub class_registers : Option Class → ℕ
class_registers None = 0
class_registers (Some one) =
    most_frames one.feed.frame.period one.uses.items
    + different (parted_frames (source_by one.feed) one.uses.items)

abbrev pub registers_below : List Class → ℕ → ℕ
registers_below classes zero = 0
registers_below classes (suc n) = registers_below classes n + class_registers (slice_get classes n)

-- the first classes have their nets
pub record AreAnswered (before now : Circuit) (classes : List Class) (answers : List (List ℕ))
    (count : ℕ) : Type 0 where
  pub size : length answers ≡ count
  pub extends : Extends before now
  pub counts : (c : ℕ) (one : Class) (numbers : List ℕ) → slice_get classes c ≡ Some one
      → slice_get answers c ≡ Some numbers → length numbers ≡ length one.uses.items
  pub parts : AreLineParts before now
  pub counted : AreCounted before now classes
  pub few : register_count now.nets ≤ register_count before.nets + registers_below classes count
  pub met : (closed hubs ports : ℕ) (level : ℕ → ℕ) → IsBegun closed hubs ports before level
      → AreClassesMet closed hubs ports before level now classes answers

-- the wants have theirs
pub record AreWantsMet (closed hubs ports : ℕ) (before : Circuit) (level : ℕ → ℕ) (now : Circuit)
    (wants : List Want) (numbers : List ℕ) : Type 0 where
  pub next : ℕ → ℕ
  pub goes : GoesOnBegun closed hubs ports before level now next
  pub each : (k : ℕ) (want : Want) (number : ℕ) → slice_get wants k ≡ Some want
      → slice_get numbers k ≡ Some number → IsMetBy closed hubs now next want.feed want.to number

pub record AreMet (before now : Circuit) (wants : List Want) (numbers : List ℕ) : Type 0 where
  pub size : length numbers ≡ length wants
  pub extends : Extends before now
  pub parts : AreLineParts before now
  pub classes : List Class
  pub folded : AreFolded wants classes
  pub counted : AreCounted before now classes
  pub few : register_count now.nets ≤ register_count before.nets
      + registers_below classes (length classes)
  pub met : (closed hubs ports : ℕ) (level : ℕ → ℕ) → IsBegun closed hubs ports before level
      → AreWantsMet closed hubs ports before level now wants numbers

-- the nets at the places of seats
abbrev pub net_at : List (List ℕ) → Seat → ℕ
net_at answers seat = slice_index_or (slice_index_or answers seat.class []) seat.place 0

abbrev pub nets_at : List (List ℕ) → List Seat → List ℕ
nets_at answers seats = map (net_at answers) seats

-- a chain was put in for a class
pub record IsClassAnswered (before after : Circuit) (one : Class) (numbers : List ℕ) : Type 0 where
  pub answers : AreAnswers before after (source_by one.feed) one.uses.items numbers
  pub chained : IsChained before after (source_by one.feed) one.uses.items

-- the places are there
pub record IsPlace (answers : List (List ℕ)) (seat : Seat) : Type 0 where
  pub own : List ℕ
  pub is : slice_get answers seat.class ≡ Some own
  pub below : seat.place < length own

pub record ArePlaces (answers : List (List ℕ)) (seats : List Seat) : Type 0 where
  pub each : (k : ℕ) (seat : Seat) → slice_get seats k ≡ Some seat → IsPlace answers seat
