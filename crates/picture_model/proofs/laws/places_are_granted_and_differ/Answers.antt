use Rattle.picture_model.proofs.FaultlessGeometry.{IsFrame-IsRight}
use Rattle.picture_model.proofs.Places.{place_granted, places_differ}
use Rattle.picture_model.proofs.laws.places_are_granted_and_differ.Goals as goal

pub returns-clause-granted : goal.returns-clause-granted
returns-clause-granted c = λ d byte address is frame. place_granted d byte address (IsFrame-IsRight d is frame)

pub returns-clause-differ : goal.returns-clause-differ
returns-clause-differ c = λ d byte other address is frame. places_differ d byte other address (IsFrame-IsRight d is frame)
