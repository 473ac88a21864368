-- The elements of ends in order, each with its hub and maybe a want (own).
use Rattle.std.specs.Prelude.{◌≡◌, ℕ, zero, suc, ◌+◌, ◌<◌, ◌++◌, ◌∷◌, List, [], length, Option, None, Some, slice_get, ⊤}
use Rattle.dg_model.specs.declared.diagram.Diagram.{Diagram}
use Rattle.dg_model.specs.Wires.{repeated}
use Rattle.hw_net.specs.declared.netlist.Frame.{Frame}
use Rattle.hw_net.specs.Circuit.{Circuit}
use Rattle.hw_lines.specs.declared.source.Use.{Use}
use Rattle.hw_build.specs.declared.asks.Ask.{Ask}
use Rattle.hw_build.specs.declared.wants.Want.{Want}
use Rattle.hw_build.specs.inner.Operands.{first_at}
use Rattle.hw_build.specs.inner.Wants.{IsWant, AreWants, AreMet}

-- what an ask says of wants: that it has none, or the number of this one
abbrev pub IsWanted : List Want → Option ℕ → Option Want → Type 0
IsWanted wants None None = ⊤
IsWanted wants None (Some want) = ⊥
IsWanted wants (Some number) None = ⊥
IsWanted wants (Some number) (Some want) = slice_get wants number ≡ Some want

-- the ask of this number is for a hub, by a want or for the hub itself
pub record IsAskOf (list : List Ask) (wants : List Want) (place hub : ℕ)
    (want : Option Want) : Type 0 where
  pub ask : Ask
  pub is : slice_get list place ≡ Some ask
  pub hub_is : ask.hub ≡ hub
  pub wanted : IsWanted wants ask.want want

-- a number of a want is one
abbrev pub IsNumber : ℕ → Option ℕ → Type 0
IsNumber count None = ⊤
IsNumber count (Some number) = number < count

pub record AreNumbered (list : List Ask) (count : ℕ) : Type 0 where
  pub each : (k : ℕ) (ask : Ask) → slice_get list k ≡ Some ask → IsNumber count ask.want

-- asks and wants stay where they are
pub record AsksGrow (old new : List Ask) (wants more : List Want) : Type 0 where
  pub list : (k : ℕ) (ask : Ask) → slice_get old k ≡ Some ask → slice_get new k ≡ Some ask
  pub wants_stay : (k : ℕ) (want : Want) → slice_get wants k ≡ Some want
      → slice_get more k ≡ Some want
  pub numbered : AreNumbered old (length wants) → AreNumbered new (length more)

-- what is asked may be asked of a chain
abbrev pub IsAllowed : Circuit → Option Want → Type 0
IsAllowed net None = ⊤
IsAllowed net (Some want) = IsWant net want

-- the want of an ask, if it has one
abbrev pub want_list : Option Want → List Want
want_list None = []
want_list (Some want) = want ∷ []

-- those of the first so many elements
abbrev pub wants_below : (ℕ → Option Want) → ℕ → List Want
wants_below asked zero = []
wants_below asked (suc n) = wants_below asked n ++ want_list (asked n)

-- one more ask
pub record AsksOne (old new : List Ask) (wants more : List Want) (hub : ℕ)
    (want : Option Want) : Type 0 where
  pub grow : AsksGrow old new wants more
  pub count : length new ≡ length old + 1
  pub is : IsAskOf new more (length old) hub want
  pub added : more ≡ wants ++ want_list want
  pub allowed : (net : Circuit) → IsAllowed net want → AreWants net wants → AreWants net more

-- so many more, one for each element of an end
pub record AsksAll (old new : List Ask) (wants more : List Want) (hubs : ℕ → ℕ)
    (asked : ℕ → Option Want) (count : ℕ) : Type 0 where
  pub grow : AsksGrow old new wants more
  pub count_is : length new ≡ length old + count
  pub each : (element : ℕ) → element < count
      → IsAskOf new more (length old + element) (hubs element) (asked element)
  pub added_all : more ≡ wants ++ wants_below asked count
  pub allowed : (net : Circuit) → ((element : ℕ) → element < count → IsAllowed net (asked element))
      → AreWants net wants → AreWants net more

-- elements of a signal as they are
abbrev pub hub_from : ℕ → ℕ → ℕ
hub_from first element = first + element

abbrev pub unasked : ℕ → Option Want
unasked element = None

-- shown later
abbrev pub plain_want : ℕ → Frame → Use → ℕ → Option Want
plain_want first frame to element =
    Some (record { feed = record { hub = first + element; frame = frame; first = None }; to = to })

-- shown later by registers: for each element of a block one of a signal of this width, with what
-- the registers have first
abbrev pub hub_spread : ℕ → ℕ → ℕ → ℕ
hub_spread first width element = first + repeated width element

abbrev pub late_want : Diagram → ℕ → ℕ → ℕ → Frame → Use → ℕ → Option Want
late_want diagram block first width frame to element =
    Some (record {
      feed = record {
        hub = first + repeated width element;
        frame = frame;
        first = Some (first_at diagram block element);
      };
      to = to;
    })

-- the net of an ask
abbrev pub IsNetFor : List ℕ → ℕ → ℕ → Option ℕ → Type 0
IsNetFor numbers number hub None = number ≡ hub
IsNetFor numbers number hub (Some want) = slice_get numbers want ≡ Some number

pub record AreNets (list : List Ask) (numbers nets : List ℕ) (count : ℕ) : Type 0 where
  pub size : length nets ≡ count
  pub each : (k : ℕ) (ask : Ask) (net : ℕ) → slice_get list k ≡ Some ask
      → slice_get nets k ≡ Some net → IsNetFor numbers net ask.hub ask.want

-- the nets of asks, in a netlist that meets their wants
pub record AreAsked (before now : Circuit) (list : List Ask) (wants : List Want)
    (nets : List ℕ) : Type 0 where
  pub numbers : List ℕ
  pub met : AreMet before now wants numbers
  pub are : AreNets list numbers nets (length list)
