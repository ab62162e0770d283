use Rattle.runs.proofs.known_stations_hold.Goals as goal
use Rattle.runs.proofs.Stations.{stations}

pub returns : goal.returns
returns c = stations
