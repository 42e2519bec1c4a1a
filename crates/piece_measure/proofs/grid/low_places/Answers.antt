use Rattle.std.proofs.Common.{refl}
use Rattle.piece_measure.proofs.Guess.{LeavesFew, leaves_few}
use Rattle.piece_measure.proofs.grid.low_places.Goals as goal

few : (c : goal.After-saturating_sub) → LeavesFew c.args.size c.saturating_sub.result
few c = leaves_few c.args.size _ c.saturating_sub.result c.requires.positive c.requires.limit refl c.saturating_sub.ensures

pub returns-clause-few : goal.returns-clause-few
returns-clause-few c = (few c).few

pub returns-clause-head : goal.returns-clause-head
returns-clause-head c = (few c).head

pub returns-clause-whole : goal.returns-clause-whole
returns-clause-whole c = (few c).whole

pub returns-clause-some : goal.returns-clause-some
returns-clause-some c = (few c).some
