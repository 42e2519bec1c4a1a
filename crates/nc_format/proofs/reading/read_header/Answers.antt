use Rattle.nc_format.proofs.Clauses.{is_header, is_sound, is_answered, is_told, is_refused, is_few, has_pieces, is_placed}
use Rattle.nc_format.proofs.reading.read_header.Goals as goal

pub returns-clause-header : goal.returns-clause-header
returns-clause-header c = is_header c.args.bytes.now c.args.file_len c.header.result c.header.ensures

pub returns-clause-only : goal.returns-clause-only
returns-clause-only c = is_answered c.args.bytes.now c.args.file_len c.header.result c.header.ensures

pub returns-clause-fault : goal.returns-clause-fault
returns-clause-fault c = is_told c.args.bytes.now c.args.file_len c.header.result c.header.ensures

pub returns-clause-refused : goal.returns-clause-refused
returns-clause-refused c = is_refused c.args.bytes.now c.args.file_len c.header.result c.header.ensures

pub returns-clause-sound : goal.returns-clause-sound
returns-clause-sound c = is_sound c.args.bytes.now c.args.file_len c.header.result c.header.ensures

pub returns-clause-few : goal.returns-clause-few
returns-clause-few c = is_few c.args.bytes.now c.args.file_len c.header.result c.header.ensures

pub returns-clause-pieces : goal.returns-clause-pieces
returns-clause-pieces c = has_pieces c.args.bytes.now c.args.file_len c.header.result c.header.ensures

pub returns-clause-placed : goal.returns-clause-placed
returns-clause-placed c = is_placed c.args.bytes.now c.args.file_len c.header.result c.header.ensures
