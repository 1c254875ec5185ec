use Rattle.script_lang.specs.Verbs.{verbs_of}
use Rattle.script_lang.proofs.Steps.{parsed_ok, parsed_bad}
use Rattle.script_lang.proofs.Again.{parsed_only, parsed_exact}
use Rattle.script_lang.proofs.Wholes.{parsed_whole}
use Rattle.script_lang.proofs.reader.parse_by.Goals as goal

pub returns-clause-ok : goal.returns-clause-ok
returns-clause-ok c = parsed_ok (verbs_of c.args.built) c.args.bytes.now c.read_script.result c.read_script.ensures

pub returns-clause-bad : goal.returns-clause-bad
returns-clause-bad c = parsed_bad (verbs_of c.args.built) c.args.bytes.now c.read_script.result c.read_script.ensures

pub returns-clause-only : goal.returns-clause-only
returns-clause-only c = parsed_only (verbs_of c.args.built) c.args.bytes.now c.read_script.result c.read_script.ensures

pub returns-clause-exact : goal.returns-clause-exact
returns-clause-exact c = parsed_exact (verbs_of c.args.built) c.args.bytes.now c.read_script.result c.read_script.ensures

pub returns-clause-whole : goal.returns-clause-whole
returns-clause-whole c = parsed_whole (verbs_of c.args.built) c.args.bytes.now c.read_script.result c.read_script.ensures
