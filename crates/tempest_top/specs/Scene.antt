-- What a call is given, and what it leaves. Source: our own.
use Rattle.remap_io.specs.Outside.{FilesSeen, SinkSeen}

-- the files, the output, and where refusals go
pub record Scene : Type 0 where
  pub files : FilesSeen
  pub out : SinkSeen
  pub err : SinkSeen

abbrev pub scene : FilesSeen → SinkSeen → SinkSeen → Scene
scene files out err = record { files = files; out = out; err = err }
