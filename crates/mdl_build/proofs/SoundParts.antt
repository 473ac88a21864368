-- What a block's type and place say of its part.
use Rattle.std.proofs.Common.{◌≡◌, ℕ, true, false, inl, inr, List, Option, Some, None, refl, sym, ◌∙◌, ap}
use Rattle.std.specs.Prelude.{◌⊎◌, bytes_eq, codes}
use Rattle.std.proofs.lemmas.Slice.Eq.{bytes_eq-Decides}
use Rattle.dg_model.specs.Sound.{IsSubSystem, IsEnable, HasPlainRole}
use Rattle.dg_model.specs.declared.nested.Part.{Part}
use Rattle.fir_block.specs.declared.filter.Fir.{Fir}
use Rattle.mdl_text.specs.declared.tree.Item.{Item}
use Rattle.mdl_build.specs.declared.library.BlockType.{BlockType}
use Rattle.mdl_build.specs.declared.library.BlockType.TheVariants.{Inport, Outport, Constant, Ground, Terminator, SubSystem, EnablePort, DiscreteFir, Sum, Gain, Product, UnitDelay, Delay, Switch}
use Rattle.mdl_build.specs.declared.library.BlockType.TheVariants.{RelationalOperator, Logic, DataTypeConversion, Mux, Demux, RateTransition}
use Rattle.mdl_build.specs.declared.parts.Standing.{Standing}
use Rattle.mdl_build.specs.declared.settings.Settings.{Settings}
use Rattle.mdl_build.specs.Library.{type_name, type_of_name, block_types}
use Rattle.mdl_build.specs.Parts.{part_of, filter_of}
use Rattle.mdl_build.specs.Roles.{says}
use Rattle.mdl_build.specs.Rules.{type_named, type_at}
use Rattle.mdl_build.specs.Sections.{value_of}
use Rattle.mdl_build.proofs.BlockNumbers.{found_passes}

-- ---- types and names

-- a type is that of its name
pub name_of_type : (name : List ℕ) (block_type : BlockType) → type_of_name name ≡ Some block_type → name ≡ type_name block_type
name_of_type name block_type found =
    sym ((bytes_eq-Decides (type_name block_type) name).0 (found_passes (λ (t : BlockType). bytes_eq (type_name t) name) block_types block_type found))

same_type : (a b : BlockType) → ◌≡◌ {A = Option BlockType} (Some a) (Some b) → a ≡ b
same_type a b e = cc

-- a block that says a type's name has this type
pub says_type : (items : List Item) (place : ℕ) (block_type named : BlockType)
    → type_at items place ≡ Some block_type → says items place (codes "BlockType") (type_name named) ≡ true
    → type_of_name (type_name named) ≡ Some named → block_type ≡ named
says_type items place block_type named is said own = by_value (value_of items place (codes "BlockType")) refl
  where
    by_value : (found : Option (List ℕ)) → value_of items place (codes "BlockType") ≡ found → block_type ≡ named
    by_value None e = let bad : ◌≡◌ {A = Option BlockType} None (Some block_type) = sym (ap type_named e) ∙ is in absurd (cc)
    by_value (Some value) e =
        let equal : bytes_eq value (type_name named) ≡ true = sym (ap (λ (f : Option (List ℕ)). elim f [ None ↦ false | Some v ↦ bytes_eq v (type_name named) ]) e) ∙ said in
        let word : value ≡ type_name named = (bytes_eq-Decides value (type_name named)).0 equal in
        let there : type_of_name value ≡ Some block_type = sym (ap type_named e) ∙ is in
        same_type block_type named (sym there ∙ ap type_of_name word ∙ own)

-- and the other way round
pub type_says : (items : List Item) (place : ℕ) (block_type : BlockType) → type_at items place ≡ Some block_type → says items place (codes "BlockType") (type_name block_type) ≡ true
type_says items place block_type is = by_value (value_of items place (codes "BlockType")) refl
  where
    by_value : (found : Option (List ℕ)) → value_of items place (codes "BlockType") ≡ found → says items place (codes "BlockType") (type_name block_type) ≡ true
    by_value None e = let bad : ◌≡◌ {A = Option BlockType} None (Some block_type) = sym (ap type_named e) ∙ is in absurd (cc)
    by_value (Some value) e =
        let there : type_of_name value ≡ Some block_type = sym (ap type_named e) ∙ is in
        let word : value ≡ type_name block_type = name_of_type value block_type there in
        ap (λ (f : Option (List ℕ)). elim f [ None ↦ false | Some v ↦ bytes_eq v (type_name block_type) ]) e ∙ (bytes_eq-Decides value (type_name block_type)).1 word

-- ---- parts

-- a plain block is no port, a subsystem comes of one type or is a filter, and an EnablePort comes of one
-- type alone
abbrev ByType : Part → BlockType → Type 0
ByType part block_type = HasPlainRole part × (IsSubSystem part → (block_type ≡ SubSystem) ⊎ (block_type ≡ DiscreteFir)) × (IsEnable part → block_type ≡ EnablePort)

by_type : (standing : Standing) (block_type : BlockType) (settings : Settings) → ByType (part_of standing block_type settings) block_type
by_type Standing.Root Inport settings = (tt, (λ is. absurd is), (λ is. absurd is))
by_type Standing.Plain Inport settings = (tt, (λ is. absurd is), (λ is. absurd is))
by_type Standing.Enabled Inport settings = (tt, (λ is. absurd is), (λ is. absurd is))
by_type Standing.Root Outport settings = (tt, (λ is. absurd is), (λ is. absurd is))
by_type Standing.Plain Outport settings = (tt, (λ is. absurd is), (λ is. absurd is))
by_type Standing.Enabled Outport settings = (tt, (λ is. absurd is), (λ is. absurd is))
by_type standing Constant settings = (refl, (λ is. absurd is), (λ is. absurd is))
by_type standing Ground settings = (refl, (λ is. absurd is), (λ is. absurd is))
by_type standing Terminator settings = (refl, (λ is. absurd is), (λ is. absurd is))
by_type standing Sum settings = (refl, (λ is. absurd is), (λ is. absurd is))
by_type standing Gain settings = (refl, (λ is. absurd is), (λ is. absurd is))
by_type standing Product settings = (refl, (λ is. absurd is), (λ is. absurd is))
by_type standing UnitDelay settings = (refl, (λ is. absurd is), (λ is. absurd is))
by_type standing Delay settings = (refl, (λ is. absurd is), (λ is. absurd is))
by_type standing Switch settings = (refl, (λ is. absurd is), (λ is. absurd is))
by_type standing RelationalOperator settings = (refl, (λ is. absurd is), (λ is. absurd is))
by_type standing Logic settings = (refl, (λ is. absurd is), (λ is. absurd is))
by_type standing DataTypeConversion settings = (refl, (λ is. absurd is), (λ is. absurd is))
by_type standing Mux settings = (refl, (λ is. absurd is), (λ is. absurd is))
by_type standing Demux settings = (refl, (λ is. absurd is), (λ is. absurd is))
by_type standing RateTransition settings = (refl, (λ is. absurd is), (λ is. absurd is))
by_type standing SubSystem settings = (tt, (λ is. inl refl), (λ is. absurd is))
by_type standing EnablePort settings = (tt, (λ is. absurd is), (λ is. refl))
by_type standing DiscreteFir settings = (tt, (λ is. inr refl), (λ is. absurd is))

pub plain_role : (standing : Standing) (block_type : BlockType) (settings : Settings) → HasPlainRole (part_of standing block_type settings)
plain_role standing block_type settings = (by_type standing block_type settings).0

pub sub_system_type : (standing : Standing) (block_type : BlockType) (settings : Settings) → IsSubSystem (part_of standing block_type settings) → (block_type ≡ SubSystem) ⊎ (block_type ≡ DiscreteFir)
sub_system_type standing block_type settings = (by_type standing block_type settings).1

pub enable_type : (standing : Standing) (block_type : BlockType) (settings : Settings) → IsEnable (part_of standing block_type settings) → block_type ≡ EnablePort
enable_type standing block_type settings = (by_type standing block_type settings).2

-- ---- filters

no_fir : (fir : Fir) → ◌≡◌ {A = Option Fir} None (Some fir) → ⊥
no_fir fir is = cc

-- only a filter stands for one
pub no_filter : (name : List ℕ) (block_type : BlockType) (settings : Settings) → (block_type ≡ DiscreteFir → ⊥) → filter_of name block_type settings ≡ None
no_filter name Inport settings other = refl
no_filter name Outport settings other = refl
no_filter name Constant settings other = refl
no_filter name Ground settings other = refl
no_filter name Terminator settings other = refl
no_filter name Sum settings other = refl
no_filter name Gain settings other = refl
no_filter name Product settings other = refl
no_filter name UnitDelay settings other = refl
no_filter name Delay settings other = refl
no_filter name Switch settings other = refl
no_filter name RelationalOperator settings other = refl
no_filter name Logic settings other = refl
no_filter name DataTypeConversion settings other = refl
no_filter name Mux settings other = refl
no_filter name Demux settings other = refl
no_filter name RateTransition settings other = refl
no_filter name SubSystem settings other = refl
no_filter name EnablePort settings other = refl
no_filter name DiscreteFir settings other = absurd (other refl)

pub filter_type : (name : List ℕ) (block_type : BlockType) (settings : Settings) (fir : Fir) → filter_of name block_type settings ≡ Some fir → block_type ≡ DiscreteFir
filter_type name Inport settings fir is = absurd (no_fir fir is)
filter_type name Outport settings fir is = absurd (no_fir fir is)
filter_type name Constant settings fir is = absurd (no_fir fir is)
filter_type name Ground settings fir is = absurd (no_fir fir is)
filter_type name Terminator settings fir is = absurd (no_fir fir is)
filter_type name Sum settings fir is = absurd (no_fir fir is)
filter_type name Gain settings fir is = absurd (no_fir fir is)
filter_type name Product settings fir is = absurd (no_fir fir is)
filter_type name UnitDelay settings fir is = absurd (no_fir fir is)
filter_type name Delay settings fir is = absurd (no_fir fir is)
filter_type name Switch settings fir is = absurd (no_fir fir is)
filter_type name RelationalOperator settings fir is = absurd (no_fir fir is)
filter_type name Logic settings fir is = absurd (no_fir fir is)
filter_type name DataTypeConversion settings fir is = absurd (no_fir fir is)
filter_type name Mux settings fir is = absurd (no_fir fir is)
filter_type name Demux settings fir is = absurd (no_fir fir is)
filter_type name RateTransition settings fir is = absurd (no_fir fir is)
filter_type name SubSystem settings fir is = absurd (no_fir fir is)
filter_type name EnablePort settings fir is = absurd (no_fir fir is)
filter_type name DiscreteFir settings fir is = refl
