mod PassLaws
mod WholeLaws
