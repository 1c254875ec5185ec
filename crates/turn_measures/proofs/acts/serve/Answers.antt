use Rattle.voice_store.specs.Shown.{pool_of}
use Rattle.voice_server.specs.Served.{store_of}
use Rattle.turn_measures.proofs.acts.serve.Goals as goal

pub loop-preserved : goal.loop-preserved
loop-preserved g c = record {
  pass = c.work.ensures;
  player = c.hear.ensures (pool_of (store_of c.args.server.now)) c.feed.ensures.player;
}
