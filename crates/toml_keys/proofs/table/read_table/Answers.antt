use Rattle.toml.specs.View.{table_view}
use Rattle.toml_keys.proofs.Documents.{refused_document, some_document}
use Rattle.toml_keys.proofs.table.read_table.Goals as goal

pub returns-in-Ok-clause-table : goal.returns-in-Ok-clause-table
returns-in-Ok-clause-table c = some_document c.args.text.now (table_view c.in-Ok.table) c.in-Ok.ensures.ok

pub returns-else-is_memory-clause-refused : goal.returns-else-is_memory-clause-refused
returns-else-is_memory-clause-refused c =
    refused_document c.args.text.now c.in-Err.error _ c.is_memory.ensures c.if-is_memory.false c.in-Err.ensures.refused
