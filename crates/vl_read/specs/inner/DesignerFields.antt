-- What the designer's fields stand for in the plain reading (own).
use Rattle.std.specs.Prelude.{ℕ, Bool, true, false, List, Option, Some, None}
use Rattle.vl_ast.specs.declared.designs.Instance.{Instance}
use Rattle.vl_read.specs.declared.designer.Designer.{Designer}
use Rattle.vl_read.specs.declared.designer.Joint.{Joint}
use Rattle.vl_read.specs.declared.designer.Joint.TheVariants.{Outside, Named, Opened, Dotted, Ported, Begun, Linked, Ended, More, Closed}
use Rattle.vl_read.specs.inner.Designs as plain
use Rattle.vl_read.specs.inner.ReaderPlaces.{seen}

-- a joint, with what was read of an instance and of a link
abbrev pub joint_seen : Instance → List ℕ → Joint → plain.Joint
joint_seen begun port Outside = plain.Outside
joint_seen begun port Named = plain.Named begun.of
joint_seen begun port Opened = plain.Opened begun
joint_seen begun port Dotted = plain.Dotted begun
joint_seen begun port Ported = plain.Ported begun
joint_seen begun port Begun = plain.Begun begun port
joint_seen begun port Linked = plain.Linked begun port
joint_seen begun port Ended = plain.Ended begun
joint_seen begun port More = plain.More begun
joint_seen begun port Closed = plain.Closed begun

-- the state of the plain reading at a joint
abbrev pub gathered_at : Designer → Joint → plain.Sketch
gathered_at designer joint =
    record {
      scope = designer.scope;
      below = designer.below;
      instances = designer.instances;
      joint = joint_seen designer.begun designer.port joint;
      parser = seen designer.reader;
    }

-- the one that the designer is in
abbrev pub gathered : Designer → plain.Sketch
gathered designer = gathered_at designer designer.joint

-- the state that is next, where an instance goes on
abbrev pub gathered_next : Designer → Option Joint → Option plain.Sketch
gathered_next designer None = None
gathered_next designer (Some joint) = Some (gathered_at designer joint)

-- the state, where the reading goes on
abbrev pub told : Bool → plain.Sketch → Option plain.Sketch
told true sketch = Some sketch
told false sketch = None
