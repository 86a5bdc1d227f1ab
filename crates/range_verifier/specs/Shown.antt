-- The parts of a version that a range proof shows.
use Rattle.prov_entry.specs.declared.entry.Header.{Header}
use Rattle.prov_entry.specs.declared.entry.Body.{Body}

-- Its header.
abbrev pub header_shown : (Header × Body) → Header
header_shown version = version.0

-- Its body.
abbrev pub body_shown : (Header × Body) → Body
body_shown version = version.1
