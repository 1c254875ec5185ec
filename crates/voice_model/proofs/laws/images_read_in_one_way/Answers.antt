use Rattle.voice_model.proofs.OneReading.{one_opened, opens_as, recovers_as, no_damage, one_place, opens_not}
use Rattle.voice_model.proofs.laws.images_read_in_one_way.Goals as goal

pub returns : goal.returns
returns c = record { state = one_opened; opens = opens_as; recovers = recovers_as; sound = no_damage; place = one_place; damaged = opens_not }
