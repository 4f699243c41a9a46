mod FolderLaws
mod NumberLaws
